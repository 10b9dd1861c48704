-- Which call a request is, and what the version machine makes of it.
use Rattle.std.specs.Prelude.{◌≡◌, ℕ, List, Option, Some, None}
use Rattle.rule_table.specs.declared.call.CallName.{CallName}
use Rattle.rule_table.specs.declared.call.CallName.TheVariants as calls
use Rattle.b2_types.specs.declared.call.Credentials.{Credentials}
use Rattle.b2_types.specs.declared.call.Call.{Call}
use Rattle.b2_types.specs.declared.call.Call.TheVariants.{AuthorizeAccount}
use Rattle.b2_types.specs.declared.upload.UploadCall.{UploadCall}
use Rattle.b2_types.specs.declared.answer.AnswerOf.{AnswerOf}
use Rattle.b2_model.specs.Run.{Progress, asks, step, answer_to, of_bytes}
use Rattle.wire_forms.specs.declared.request.Request.{Request}
use Rattle.call_paths.specs.declared.routes.Route.{Route}
use Rattle.http_edge.specs.declared.head.Head.{Head}
use Rattle.api_json.specs.Call.{HasCredentials}
use Rattle.served_world.specs.Replies.{Reads}
use Rattle.b2_server.specs.Store.{IsAt}
use Rattle.b2_server.specs.declared.store.FirstStore.{FirstStore}

-- A request for a call of this name is this call. An authorize call has what its header gives, and its body
-- is not looked at.
abbrev pub IsCallOf : CallName → Route → Request → Call → Type 0
IsCallOf calls.AuthorizeAccount route r c =
    (credentials : Option Credentials) × HasCredentials r credentials × (c ≡ AuthorizeAccount (record { version = route.version; credentials = credentials }))
IsCallOf other route r c = ⊥

-- the call that a request with this head is
abbrev pub IsCallAt : Head → Call → Type 0
IsCallAt head c = IsCallOf head.route.name head.route head.request c

-- it gives no token: an authorize call takes none
abbrev pub IsCall : Head → List ℕ → Option (List ℕ) → Call → Type 0
IsCall head body token c = (token ≡ None) × IsCallAt head c

-- none is an upload
abbrev pub IsUpload : Head → Option (List ℕ) → UploadCall → Type 0
IsUpload head token u = ⊥

-- requests are read so
abbrev pub reads : Reads
reads = record { call = IsCall; upload = IsUpload }

-- ---- one step. These two words do not unfold by themselves.

-- the machine after it was asked this
unfoldable pub after_asking : Progress (List ℕ) → ℕ → Call → Progress (List ℕ)
after_asking P reading c = step of_bytes P (asks reading None c)

-- what it answers
unfoldable pub told_to : Progress (List ℕ) → ℕ → Call → Option (AnswerOf (List ℕ))
told_to P reading c = answer_to of_bytes P (asks reading None c)

-- the machine answers so, and the store is where it is then
pub record Tells (s : FirstStore) (P : Progress (List ℕ)) (reading : ℕ) (c : Call) (told : AnswerOf (List ℕ)) : Type 0 where
  pub answers : told_to P reading c ≡ Some told
  pub after : IsAt s (after_asking P reading c).state (after_asking P reading c).words

-- the request with this head is a call to which the machine answers so
pub record IsTold (s : FirstStore) (P : Progress (List ℕ)) (reading : ℕ) (head : Head) (told : AnswerOf (List ℕ)) : Type 0 where
  pub asked : Call
  pub read : IsCallAt head asked
  pub tells : Tells s P reading asked told
