-- Steps and runs: what the machine does, one whole request, upload, loss, pass or restart after another.
use Rattle.std.specs.Option.{is_some}
use Rattle.std.specs.Prelude.{⊤, ℕ, ◌+◌, ◌/◌, nat_lt, min, max, List, [], ◌∷◌, ◌++◌, length, Option, Some, None, option_map, if◌then◌else◌, fold}
use Rattle.b2_types.specs.declared.fault.Fault.{Fault}
use Rattle.b2_types.specs.declared.call.Call.{Call}
use Rattle.b2_types.specs.declared.key.Flight.{Flight}
use Rattle.b2_types.specs.declared.upload.UploadCall.{UploadCall}
use Rattle.b2_types.specs.declared.record.ChangeOf.TheVariants as change
use Rattle.b2_types.specs.declared.answer.AnswerOf.{AnswerOf}
use Rattle.b2_types.specs.declared.answer.AnswerOf.TheVariants as answer
use Rattle.b2_model.specs.Kinds.{day, last_moment}
use Rattle.b2_model.specs.Body.{copy_of}
use Rattle.b2_model.specs.State.{State, Pieces}
use Rattle.b2_model.specs.Changes.{after_record}
use Rattle.b2_model.specs.Ask.{Outcome, ask}
use Rattle.b2_model.specs.UploadSteps.{Body, Begun, begin, end, without_flight, flight_of}

-- a step, with the clock's reading at it
pub data Step (C : Type 0) : Type 0 where
  -- a call with the token that it gives
  asks : ℕ → Option (List ℕ) → Call → Step C
  -- on a connection, with the token that it gives
  begins : ℕ → ℕ → Option (List ℕ) → UploadCall → Step C
  ends : ℕ → ℕ → Body C → Step C
  loses : ℕ → ℕ → Step C
  passes : ℕ → Step C
  restarts : ℕ → Step C

-- any step but an opening
abbrev pub Keeps : {C : Type 0} → Step C → Type 0
Keeps (asks reading token c) = ⊤
Keeps (begins reading conn token u) = ⊤
Keeps (ends reading conn body) = ⊤
Keeps (loses reading conn) = ⊤
Keeps (passes reading) = ⊤
Keeps (restarts reading) = ⊥

-- the moment of a step: the reading cut to the last moment, but never before the moment of the state
abbrev pub moment : {C : Type 0} → State C → ℕ → ℕ
moment M reading = max M.now (min reading last_moment)

abbrev pub with_pass : {C : Type 0} → State C → ℕ → State C
with_pass M t = after_record M (record { at = t; change = change.Pass })

-- a pass stands before the first step of a day
abbrev pub with_daily_pass : {C : Type 0} → State C → ℕ → State C
with_daily_pass M t = if nat_lt M.pass_day (t / day) then with_pass M t else M

-- the state is opened again: what was not kept is gone
abbrev pub at_kept : {C : Type 0} → State C → State C
at_kept M = record M { now = M.kept }

abbrev pub with_restart : {C : Type 0} → State C → ℕ → State C
with_restart M t = after_record M (record { at = t; change = change.Boot (M.boot + 1) })

-- the state, the words that are left, and the answers so far
pub record Progress (C : Type 0) : Type 0 where
  pub state : State C
  pub words : List ℕ
  pub answers : List (AnswerOf C)

-- ---- what a step makes, and what it answers

-- a step is carried out on the state after the daily pass
abbrev pub start_of : {C : Type 0} → Progress C → ℕ → State C
start_of P reading = with_daily_pass P.state (moment P.state reading)

abbrev pub ask_step : {C : Type 0} → Pieces C → Progress C → ℕ → Option (List ℕ) → Call → Outcome C
ask_step K P reading token c = ask K (start_of P reading) (moment P.state reading) P.words token c

abbrev pub begin_step : {C : Type 0} → Progress C → ℕ → ℕ → Option (List ℕ) → UploadCall → Begun C
begin_step P reading conn token u = begin (start_of P reading) (moment P.state reading) conn token u

abbrev pub end_step : {C : Type 0} → Pieces C → Progress C → ℕ → Flight → Body C → Outcome C
end_step K P reading f body = end K.size (start_of P reading) (moment P.state reading) f body P.words

abbrev pub refusal_of : {C : Type 0} → Option Fault → Option (AnswerOf C)
refusal_of fault = option_map (λ f. answer.Refused f) fault

-- what a step answers. An upload that begins well is not answered yet; nor is a loss, a pass or an opening
abbrev pub answer_to : {C : Type 0} → Pieces C → Progress C → Step C → Option (AnswerOf C)
answer_to K P (asks reading token c) = Some (ask_step K P reading token c).answer
answer_to K P (begins reading conn token u) =
    if is_some (flight_of P.state conn) then None else refusal_of (begin_step P reading conn token u).fault
answer_to K P (ends reading conn body) = option_map (λ f. (end_step K P reading f body).answer) (flight_of P.state conn)
answer_to K P (loses reading conn) = None
answer_to K P (passes reading) = None
answer_to K P (restarts reading) = None

abbrev pub with_outcome : {C : Type 0} → Progress C → Outcome C → Progress C
with_outcome P o = record P { state = o.state; words = o.words }

abbrev pub with_state : {C : Type 0} → Progress C → State C → Progress C
with_state P M = record P { state = M }

abbrev pub with_end : {C : Type 0} → Pieces C → Progress C → ℕ → Body C → Option Flight → Progress C
with_end K P reading body None = P
with_end K P reading body (Some f) = with_outcome P (end_step K P reading f body)

-- the state after a step, and the words that are left. An upload that begins where one is under way is no
-- step, nor is the end or the loss of one where none is
abbrev pub state_after : {C : Type 0} → Pieces C → Progress C → Step C → Progress C
state_after K P (asks reading token c) = with_outcome P (ask_step K P reading token c)
state_after K P (begins reading conn token u) =
    if is_some (flight_of P.state conn) then P else with_state P (begin_step P reading conn token u).state
state_after K P (ends reading conn body) = with_end K P reading body (flight_of P.state conn)
state_after K P (loses reading conn) =
    if is_some (flight_of P.state conn) then with_state P (without_flight (start_of P reading) (moment P.state reading) conn) else P
state_after K P (passes reading) = with_state P (with_pass P.state (moment P.state reading))
state_after K P (restarts reading) = let M = at_kept P.state in with_state P (with_restart M (moment M reading))

abbrev pub with_answer : {C : Type 0} → Option (AnswerOf C) → Progress C → Progress C
with_answer None P = P
with_answer (Some answer) P = record P { answers = P.answers ++ answer ∷ [] }

abbrev pub step : {C : Type 0} → Pieces C → Progress C → Step C → Progress C
step K P s = with_answer (answer_to K P s) (state_after K P s)

abbrev pub run : {C : Type 0} → Pieces C → State C → List ℕ → List (Step C) → Progress C
run K M words steps = fold (step K) (record { state = M; words = words; answers = [] }) steps

-- ---- contents that are lists of bytes

abbrev pub of_bytes : Pieces (List ℕ)
of_bytes = record { size = length; copy = copy_of }
