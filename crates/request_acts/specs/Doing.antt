-- What the acts that a piece brings make, one after the other.
use Rattle.std.specs.Prelude.{◌≡◌, ℕ, nat_eq, Bool, false, List, [], ◌∷◌, ◌++◌, length, Option, None, Some, option_map, MatchOption}
use Rattle.std.specs.Map.{update}
use Rattle.b2_types.specs.declared.call.Call.{Call}
use Rattle.b2_types.specs.declared.upload.UploadCall.{UploadCall}
use Rattle.b2_types.specs.declared.answer.AnswerOf.{AnswerOf}
use Rattle.b2_model.specs.Body.{body_of}
use Rattle.b2_model.specs.Run.{asks, begins, ends, answer_to, of_bytes}
use Rattle.http_edge.specs.declared.head.Head.{Head}
use Rattle.conn_talk.specs.declared.act.Act.{Act}
use Rattle.conn_talk.specs.declared.act.Act.TheVariants as act
use Rattle.conn_talk.specs.declared.pending.Pending.{Pending}
use Rattle.conn_talk.specs.Asked.{Asked, nothing, refused, begun, complete, IsAsked}
use Rattle.served_world.specs.Replies.{Reads, Reply, Outcome, form, made}
use Rattle.served_world.specs.World.{pending_of}
use Rattle.request_acts.specs.Answering.{Uploads, Upload, Contents, with_content, At, uploads_after, with_piece, whole_of}

-- what was made of a request so far, the uploads under way, and the contents that are read
pub record Doing : Type 0 where
  pub outcome : Outcome
  pub uploads : Uploads
  pub contents : Contents

-- what answers is where that leads
abbrev pub IsThere : At → Doing → Type 0
IsThere now d = now d.outcome.machine.state d.outcome.machine.words d.uploads d.contents

-- The upload of the connection ends, where one is under way whose body came whole, and the machine answers that.
abbrev pub DoesEnd : ℕ → ℕ → Bool → Doing → Option Upload → Doing → Type 0
DoesEnd reading c stay d None e = e ≡ d
DoesEnd reading c stay d (Some u) e =
    (answer : AnswerOf (List ℕ)) × (answer_to of_bytes d.outcome.machine (ends reading c (body_of u.call u.came)) ≡ Some answer)
    × (e ≡ record d { outcome = made stay (ends reading c (body_of u.call u.came)) d.outcome; uploads = update nat_eq d.uploads c None })

-- What an act makes. The request of an End stays where `stay` says so.
abbrev pub Does : Reads → ℕ → ℕ → Bool → Act → Doing → Doing → Type 0
Does R reading c stay (act.Whole head body) d e =
    (token : Option (List ℕ)) × (call : Call) × (content : List ℕ) × R.call head body token call
    × (e ≡ record d { outcome = made head.request.stay (asks reading token call) d.outcome; contents = with_content d.contents c content })
Does R reading c stay (act.Begin head) d e =
    (token : Option (List ℕ)) × (u : UploadCall) × R.upload head token u
    × (e ≡ record d { outcome = made false (begins reading c token u) d.outcome; uploads = uploads_after d.uploads c head.request.length u (answer_to of_bytes d.outcome.machine (begins reading c token u)) })
Does R reading c stay (act.Body bytes) d e = e ≡ record d { uploads = with_piece d.uploads c bytes }
Does R reading c stay act.End d e = DoesEnd reading c stay d (whole_of (d.uploads c)) e
Does R reading c stay (act.Refuse fault) d e = e ≡ record d { outcome = record d.outcome { reply = Some (form fault.kind) } }

-- acts one after the other, of which those behind a reply do nothing
abbrev pub DoesAll : Reads → ℕ → ℕ → Bool → List Act → Doing → Doing → Type 0
DoesAll R reading c stay [] d e = e ≡ d
DoesAll R reading c stay (a ∷ acts) d e =
    (m : Doing) × MatchOption d.outcome.reply (Does R reading c stay a d m) (λ _. m ≡ d) × DoesAll R reading c stay acts m e

-- ---- the reply that is kept, and its content

-- the reply with the content behind its text
abbrev pub joined : List ℕ → Pending (List ℕ) → Pending (List ℕ)
joined content p = record p { text = p.text ++ content; len = 0 }

-- the content is as long as the reply says, and there is none where there is no reply
abbrev pub HasContent : List ℕ → Option (Pending (List ℕ)) → Type 0
HasContent content None = content ≡ []
HasContent content (Some p) = p.len ≡ length content

-- the reply that is kept and the content that is read for it are what was told
pub record IsReplied (content : List ℕ) (kept : Option (Pending (List ℕ))) (told : Option Reply) : Type 0 where
  pub content_is : HasContent content kept
  pub reply_is : option_map (joined content) kept ≡ option_map pending_of told

-- the request has no reply yet, and nothing is read for its connection
pub record IsUnreplied (c : ℕ) (d : Doing) : Type 0 where
  pub reply : d.outcome.reply ≡ None
  pub content : d.contents c ≡ []

-- the act was carried out, with this reply
abbrev pub Carries : Reads → ℕ → ℕ → Bool → At → Act → At → Option (Pending (List ℕ)) → Type 0
Carries R reading c stay was a now reply =
    (d : Doing) → IsThere was d → IsUnreplied c d → (e : Doing) × Does R reading c stay a d e × IsThere now e × IsReplied (e.contents c) reply e.outcome.reply

-- the acts were carried out, up to the one that brings this reply
abbrev pub HasDone : Reads → ℕ → ℕ → Bool → At → List Act → At → Option (Pending (List ℕ)) → Type 0
HasDone R reading c stay was acts now reply =
    (d : Doing) → IsThere was d → IsUnreplied c d → (e : Doing) × DoesAll R reading c stay acts d e × IsThere now e × IsReplied (e.contents c) reply e.outcome.reply

-- ---- a request without a reply

-- the upload whose head and bytes came is under way
pub record IsUnderWay (R : Reads) (head : Head) (came : List ℕ) (u : Upload) : Type 0 where
  pub token : Option (List ℕ)
  pub read : R.upload head token u.call
  pub came_is : u.came ≡ came
  pub length_is : u.length ≡ head.request.length

-- Of a request without a reply either nothing is told, or its upload is under way.
abbrev pub Awaits : Reads → ℕ → List ℕ → Option Upload → Asked → Type 0
Awaits R before got up nothing = up ≡ None
Awaits R before got up (refused kind) = ⊥
Awaits R before got up (begun head came) = IsAsked before got (begun head came) × MatchOption up ⊥ (IsUnderWay R head came)
Awaits R before got up (complete head body rest) = ⊥
