-- What the laws ask of a reading of requests, and what they say of requests that are not answered.
use Rattle.std.specs.Prelude.{◌≡◌, ◌⊎◌, ℕ, List, [], Option, ⊤}
use Rattle.std.specs.List.{AllByRecursion}
use Rattle.b2_types.specs.declared.call.Call.{Call}
use Rattle.b2_types.specs.declared.upload.UploadCall.{UploadCall}
use Rattle.http_edge.specs.declared.head.Head.{Head}
use Rattle.conn_talk.specs.Asked.{Asked, nothing, refused, begun, complete, IsAsked}
use Rattle.conn_talk.specs.Talk.{Talk}
use Rattle.served_world.specs.Replies.{Reads}
use Rattle.served_world.specs.World.{Answered}

-- a request is one call, or one upload
pub record AreOne (R : Reads) : Type 0 where
  pub call : (head : Head) (body : List ℕ) (token other : Option (List ℕ)) (a b : Call) → R.call head body token a → R.call head body other b → (token ≡ other) × (a ≡ b)
  pub upload : (head : Head) (token other : Option (List ℕ)) (a b : UploadCall) → R.upload head token a → R.upload head other b → (token ≡ other) × (a ≡ b)

-- no request of the connection of this name was answered
abbrev pub HasNone : ℕ → List Answered → Type 0
HasNone name rs = AllByRecursion (λ r. r.name ≡ name → ⊥) rs

-- more bytes are to come
abbrev pub IsComing : Asked → Type 0
IsComing nothing = ⊤
IsComing (refused kind) = ⊥
IsComing (begun head came) = ⊤
IsComing (complete head body rest) = ⊥

-- nothing came of the request, or its bytes are neither a whole request nor refused
abbrev pub IsUnfinished : Talk (List ℕ) → Type 0
IsUnfinished a = (a.got ≡ []) ⊎ ((asked : Asked) × IsAsked a.before a.got asked × IsComing asked)
