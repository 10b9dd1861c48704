-- What a request comes to: a refusal of its form, or steps of the machine and what it answers to the last.
use Rattle.std.specs.Prelude.{◌≡◌, ℕ, Bool, true, false, List, [], ◌∷◌, ◌++◌, Option, Some, option_map, MatchOption}
use Rattle.rule_table.specs.declared.fault.FaultKind.{FaultKind}
use Rattle.b2_types.specs.declared.call.Call.{Call}
use Rattle.b2_types.specs.declared.upload.UploadCall.{UploadCall}
use Rattle.b2_types.specs.declared.answer.AnswerOf.{AnswerOf}
use Rattle.b2_types.specs.declared.answer.AnswerOf.TheVariants as answer
use Rattle.b2_types.specs.Fault.{plain}
use Rattle.b2_model.specs.Body.{body_of}
use Rattle.b2_model.specs.Run.{Step, asks, begins, ends, Progress, answer_to, step, of_bytes}
use Rattle.http_edge.specs.declared.head.Head.{Head}
use Rattle.http_edge.specs.Length.{is_upload}
use Rattle.http_edge.specs.Reply.{reply_of}
use Rattle.conn_talk.specs.Asked.{Asked, nothing, refused, begun, complete, is_begun}

-- how requests are read
pub record Reads : Type 1 where
  -- the request with this head and this body gives this token, and is this call
  pub call : Head → List ℕ → Option (List ℕ) → Call → Type 0
  -- the request with this head gives this token, and is this upload
  pub upload : Head → Option (List ℕ) → UploadCall → Type 0

-- what answers a request
pub data Reply : Type 0 where
  -- a refusal of its form, without a step
  form : FaultKind → Reply
  -- what the machine answered, and whether the request stays
  told : AnswerOf (List ℕ) → Bool → Reply

abbrev pub stays : Reply → Bool
stays (form kind) = false
stays (told answer stay) = stay

-- the bytes of the reply
abbrev pub text_of : Reply → List ℕ
text_of (form kind) = reply_of (answer.Refused (plain kind)) false
text_of (told answer stay) = reply_of answer stay

-- the machine and its steps so far, and the reply to a request, if there is one
pub record Outcome : Type 0 where
  pub machine : Progress (List ℕ)
  pub steps : List (Step (List ℕ))
  pub reply : Option Reply

-- the machine makes a step more, and its answer is the reply
abbrev pub made : Bool → Step (List ℕ) → Outcome → Outcome
made stay s o = record {
  machine = step of_bytes o.machine s;
  steps = o.steps ++ s ∷ [];
  reply = option_map (λ a. told a stay) (answer_to of_bytes o.machine s);
}

-- The head of an upload is whole. A connection closes with the refusal of a begin.
abbrev pub Begins : Reads → ℕ → ℕ → Head → Outcome → Outcome → Type 0
Begins R reading c head o p = (token : Option (List ℕ)) × (u : UploadCall) × R.upload head token u × (p ≡ made false (begins reading c token u) o)

-- its body is whole
abbrev pub Ends : Reads → ℕ → ℕ → Head → List ℕ → Outcome → Outcome → Type 0
Ends R reading c head body o p =
    (token : Option (List ℕ)) × (u : UploadCall) × R.upload head token u × (p ≡ made head.request.stay (ends reading c (body_of u body)) o)

-- a request is whole that is no upload
abbrev pub Asks : Reads → ℕ → ℕ → Head → List ℕ → Outcome → Outcome → Type 0
Asks R reading c head body o p =
    (token : Option (List ℕ)) × (call : Call) × R.call head body token call × (p ≡ made head.request.stay (asks reading token call) o)

-- it begins, unless it began before
abbrev pub BeginsOnce : Reads → ℕ → ℕ → Bool → Head → Outcome → Outcome → Type 0
BeginsOnce R reading c true head o p = p ≡ o
BeginsOnce R reading c false head o p = Begins R reading c head o p

-- it ends, unless its begin was refused
abbrev pub EndsUnrefused : Reads → ℕ → ℕ → Head → List ℕ → Outcome → Outcome → Type 0
EndsUnrefused R reading c head body o p = MatchOption o.reply (Ends R reading c head body o p) (λ _. p ≡ o)

abbrev pub IsCarriedOut : Reads → ℕ → ℕ → Bool → Bool → Head → List ℕ → Outcome → Outcome → Type 0
IsCarriedOut R reading c true began head body o p =
    (m : Outcome) × BeginsOnce R reading c began head o m × EndsUnrefused R reading c head body m p
IsCarriedOut R reading c false began head body o p = Asks R reading c head body o p

-- what bytes make that ask for this, on a connection of this number, after it was told that they ask for as much
-- as the first says
abbrev pub Makes : Reads → ℕ → ℕ → Asked → Asked → Outcome → Outcome → Type 0
Makes R reading c before nothing o p = p ≡ o
Makes R reading c before (refused kind) o p = p ≡ record o { reply = Some (form kind) }
Makes R reading c before (begun head came) o p = BeginsOnce R reading c (is_begun before) head o p
Makes R reading c before (complete head body rest) o p = IsCarriedOut R reading c (is_upload head.route.name) (is_begun before) head body o p
