-- The moment of the state after each step.
use Rattle.std.proofs.Common.{◌≡◌, ℕ, ◌≤◌, Bool, true, false, ◌++◌, List, Option, Some, None, if◌then◌else◌, refl, ap, ◌∙◌, arith}
use Rattle.std.specs.Option.{is_some}
use Rattle.b2_types.specs.declared.fault.Fault.{Fault}
use Rattle.b2_types.specs.declared.key.Flight.{Flight}
use Rattle.b2_types.specs.declared.key.Grant.{Grant}
use Rattle.b2_types.specs.declared.call.Call.{Call}
use Rattle.b2_types.specs.declared.upload.UploadCall.{UploadCall}
use Rattle.b2_types.specs.declared.record.ChangeOf.{ChangeOf}
use Rattle.b2_types.specs.declared.answer.AnswerOf.{AnswerOf}
use Rattle.b2_model.specs.Checks.{first_fault}
use Rattle.b2_model.specs.State.{State, Pieces}
use Rattle.b2_model.specs.Plan.{Plan}
use Rattle.b2_model.specs.Ask.{ask, at_moment, plan_of, refusals_of, outcome_or_refusal, with_change, with_grant}
use Rattle.b2_model.specs.UploadSteps.{Body, begin, begin_as, begin_refusals, end, end_plan, upload_rules, without_flight, flight_of}
use Rattle.b2_model.specs.Policy.{caller_of}
use Rattle.b2_model.specs.Run.{Step, asks, begins, ends, loses, passes, restarts, Progress, Keeps, moment, start_of, begin_step, with_state, with_end, with_answer, answer_to, state_after, step}

grant_now : {C : Type 0} (M : State C) (g : Option Grant) → (with_grant g M).now ≡ M.now
grant_now M None = refl
grant_now M (Some g) = refl

change_now : {C : Type 0} (M : State C) (t : ℕ) (ch : Option (ChangeOf C)) → (with_change (at_moment M t) t ch).now ≡ t
change_now M t None = refl
change_now M t (Some ch) = refl

pub outcome_now : {C : Type 0} (M : State C) (t : ℕ) (words : List ℕ) (p : Plan C) (o : Option Fault) → (outcome_or_refusal M t words p o).state.now ≡ t
outcome_now M t words p (Some fault) = refl
outcome_now M t words p None = grant_now (with_change (at_moment M t) t p.change) p.grant ∙ change_now M t p.change

pub asked_now : {C : Type 0} (K : Pieces C) (M : State C) (t : ℕ) (words : List ℕ) (token : Option (List ℕ)) (c : Call) → (ask K M t words token c).state.now ≡ t
asked_now K M t words token c = outcome_now M t words (plan_of K M t words token c) (first_fault (refusals_of K M t words token c))

begun_as_now : {C : Type 0} (M : State C) (t conn : ℕ) (token : Option (List ℕ)) (u : UploadCall) (o : Option Fault) → (begin_as M t conn token u o).state.now ≡ t
begun_as_now M t conn token u (Some fault) = refl
begun_as_now M t conn token u None = refl

pub begun_now : {C : Type 0} (M : State C) (t conn : ℕ) (token : Option (List ℕ)) (u : UploadCall) → (begin M t conn token u).state.now ≡ t
begun_now M t conn token u = begun_as_now M t conn token u (first_fault (begin_refusals M t token u))

pub ended_now : {C : Type 0} (size : C → ℕ) (M : State C) (t : ℕ) (f : Flight) (body : Body C) (words : List ℕ) → (end size M t f body words).state.now ≡ t
ended_now size M t f body words =
    let N = without_flight M t f.conn in
    let who = caller_of N (Some f.token) in
    let p = end_plan size N t who.key body f.upload in
    outcome_now N t words p (first_fault (upload_rules N t who f.upload p.exists ++ p.own))

-- ---- steps

not_before : {C : Type 0} (M : State C) (reading n : ℕ) → n ≡ moment M reading → M.now ≤ n
not_before M reading n is = omega (arith, is)

either_now : {C : Type 0} (b : Bool) (P Q : Progress C) (n : ℕ) → n ≤ P.state.now → n ≤ Q.state.now → n ≤ (if b then P else Q).state.now
either_now true P Q n first second = first
either_now false P Q n first second = second

with_end_now : {C : Type 0} (K : Pieces C) (P : Progress C) (reading : ℕ) (body : Body C) (o : Option Flight) → P.state.now ≤ (with_end K P reading body o).state.now
with_end_now K P reading body None = omega arith
with_end_now K P reading body (Some f) = not_before P.state reading _ (ended_now K.size (start_of P reading) (moment P.state reading) f body P.words)

after_now : {C : Type 0} (K : Pieces C) (P : Progress C) (s : Step C) → Keeps s → P.state.now ≤ (state_after K P s).state.now
after_now K P (asks reading token c) keeps = not_before P.state reading _ (asked_now K (start_of P reading) (moment P.state reading) P.words token c)
after_now K P (begins reading conn token u) keeps =
    either_now (is_some (flight_of P.state conn)) P (with_state P (begin_step P reading conn token u).state) P.state.now
    (omega arith) (not_before P.state reading _ (begun_now (start_of P reading) (moment P.state reading) conn token u))
after_now K P (ends reading conn body) keeps = with_end_now K P reading body (flight_of P.state conn)
after_now K P (loses reading conn) keeps =
    either_now (is_some (flight_of P.state conn)) (with_state P (without_flight (start_of P reading) (moment P.state reading) conn)) P P.state.now
    (not_before P.state reading _ refl) (omega arith)
after_now K P (passes reading) keeps = not_before P.state reading _ refl
after_now K P (restarts reading) keeps = absurd keeps

-- an answer changes no state
pub answer_state : {C : Type 0} (o : Option (AnswerOf C)) (P : Progress C) → (with_answer o P).state ≡ P.state
answer_state None P = refl
answer_state (Some a) P = refl

pub never_falls : {C : Type 0} (K : Pieces C) (P : Progress C) (s : Step C) → Keeps s → P.state.now ≤ (step K P s).state.now
never_falls K P s keeps =
    let kept = after_now K P s keeps in
    let same : (step K P s).state.now ≡ (state_after K P s).state.now = ap (λ M. M.now) (answer_state (answer_to K P s) (state_after K P s)) in
    omega (arith, kept, same)
