-- The daily pass among the steps.
use Rattle.std.proofs.Common.{◌≡◌, ℕ, ◌/◌, Bool, true, false, nat_lt, max, min, List, Option, Some, None, if◌then◌else◌, option_map, find, ◌==◌, refl, sym, ap, ◌∙◌, arith}
use Rattle.std.specs.Option.{is_some}
use Rattle.std.proofs.lemmas.Bool.{false≢true}
use Rattle.std.proofs.lemmas.Bool.Decides.{nat_tests}
use Rattle.b2_types.specs.declared.fault.Fault.{Fault}
use Rattle.b2_types.specs.declared.call.Call.{Call}
use Rattle.b2_types.specs.declared.key.Flight.{Flight}
use Rattle.b2_types.specs.declared.upload.UploadCall.{UploadCall}
use Rattle.b2_types.specs.declared.answer.AnswerOf.{AnswerOf}
use Rattle.b2_model.specs.Kinds.{day, last_moment}
use Rattle.b2_model.specs.Body.{Body}
use Rattle.b2_model.specs.Checks.{first_fault}
use Rattle.b2_model.specs.State.{State, Pieces}
use Rattle.b2_model.specs.Stored.{stored_part}
use Rattle.b2_model.specs.Ask.{ask}
use Rattle.b2_model.specs.UploadSteps.{end, begin, begin_as, begin_refusals, flight_of, without_flight}
use Rattle.b2_model.specs.Run.{Step, asks, begins, ends, loses, passes, restarts, Progress, moment, with_pass, with_daily_pass, start_of, ask_step, begin_step, end_step, refusal_of, with_outcome, with_state, with_end, with_answer, answer_to, state_after, step}
use Rattle.machine_laws.specs.Days.{is_due, IsOnState}
use Rattle.machine_laws.proofs.Moments.{answer_state}
use Rattle.machine_laws.proofs.PassKeeps.{passed_flights}

not_below : (n : ℕ) → nat_lt n n ≡ false
not_below n = grind (arith, nat_tests)

module _ {C : Type 0} (K : Pieces C) where
  -- the state at the moment of a reading stands at it
  moment_again : (n reading : ℕ) → max (max n (min reading last_moment)) (min reading last_moment) ≡ max n (min reading last_moment)
  moment_again n reading = omega arith

  pub same_moment : (P : Progress C) (reading : ℕ) → moment (step K P (passes reading)).state reading ≡ moment P.state reading
  same_moment P reading = moment_again P.state.now reading

  pub no_second_pass : (P : Progress C) (reading : ℕ) → start_of (step K P (passes reading)) reading ≡ (step K P (passes reading)).state
  no_second_pass P reading =
      let Q = step K P (passes reading) in
      ap (λ t. with_daily_pass Q.state t) (same_moment P reading)
      ∙ ap (λ b. if b then with_pass Q.state (moment P.state reading) else Q.state) (not_below (moment P.state reading / day))

  -- where it is due, a step starts from the state after the pass
  pub due_start : (P : Progress C) (reading : ℕ) → is_due P reading ≡ true → start_of P reading ≡ start_of (step K P (passes reading)) reading
  due_start P reading due =
      ap (λ b. if b then with_pass P.state (moment P.state reading) else P.state) due ∙ sym (no_second_pass P reading)

  abbrev after_pass : Progress C → ℕ → Progress C
  after_pass P reading = step K P (passes reading)

  asked : (P : Progress C) (reading : ℕ) → is_due P reading ≡ true → (token : Option (List ℕ)) (c : Call)
      → ask_step K P reading token c ≡ ask_step K (after_pass P reading) reading token c
  asked P reading due token c =
      ap (λ N. ask K N (moment P.state reading) P.words token c) (due_start P reading due)
      ∙ ap (λ t. ask K (start_of (after_pass P reading) reading) t P.words token c) (sym (same_moment P reading))

  begun : (P : Progress C) (reading : ℕ) → is_due P reading ≡ true → (conn : ℕ) (token : Option (List ℕ)) (u : UploadCall)
      → begin_step P reading conn token u ≡ begin_step (after_pass P reading) reading conn token u
  begun P reading due conn token u =
      ap (λ N. begin N (moment P.state reading) conn token u) (due_start P reading due)
      ∙ ap (λ t. begin (start_of (after_pass P reading) reading) t conn token u) (sym (same_moment P reading))

  ended : (P : Progress C) (reading : ℕ) → is_due P reading ≡ true → (f : Flight) (body : Body C)
      → end_step K P reading f body ≡ end_step K (after_pass P reading) reading f body
  ended P reading due f body =
      ap (λ N. end K.size N (moment P.state reading) f body P.words) (due_start P reading due)
      ∙ ap (λ t. end K.size (start_of (after_pass P reading) reading) t f body P.words) (sym (same_moment P reading))

  lost : (P : Progress C) (reading : ℕ) → is_due P reading ≡ true → (conn : ℕ)
      → without_flight (start_of P reading) (moment P.state reading) conn ≡ without_flight (start_of (after_pass P reading) reading) (moment (after_pass P reading).state reading) conn
  lost P reading due conn =
      ap (λ N. without_flight N (moment P.state reading) conn) (due_start P reading due)
      ∙ ap (λ t. without_flight (start_of (after_pass P reading) reading) t conn) (sym (same_moment P reading))

  -- a pass keeps the uploads under way, the words and the answers
  ask_own : (P : Progress C) (reading : ℕ) → is_due P reading ≡ true → (token : Option (List ℕ)) (c : Call)
      → step K P (asks reading token c) ≡ step K (after_pass P reading) (asks reading token c)
  ask_own P reading due token c = ap {B = Progress C} (λ o. with_answer (Some o.answer) (with_outcome P o)) (asked P reading due token c)

  same_flights : (P : Progress C) (reading conn : ℕ) → flight_of (after_pass P reading).state conn ≡ flight_of P.state conn
  same_flights P reading conn = ap (find (λ f. f.conn == conn)) (passed_flights (moment P.state reading) P.state)

  begin_on : (b : Bool) → b ≡ false → (P Q : Progress C) (o : Option (AnswerOf C)) → with_answer (if b then None else o) (if b then P else Q) ≡ with_answer o Q
  begin_on true free P Q o = absurd (false≢true (sym free))
  begin_on false free P Q o = refl

  begin_own : (P : Progress C) (reading conn : ℕ) (token : Option (List ℕ)) (u : UploadCall) → is_due P reading ≡ true → is_some (flight_of P.state conn) ≡ false
      → step K P (begins reading conn token u) ≡ step K (after_pass P reading) (begins reading conn token u)
  begin_own P reading conn token u due free =
      let B = begin_step P reading conn token u in
      let D = begin_step (after_pass P reading) reading conn token u in
      begin_on (is_some (flight_of P.state conn)) free P (with_state P B.state) (refusal_of B.fault)
      ∙ ap {B = Progress C} (λ b. with_answer (refusal_of b.fault) (with_state P b.state)) (begun P reading due conn token u)
      ∙ sym (begin_on (is_some (flight_of (after_pass P reading).state conn)) (ap is_some (same_flights P reading conn) ∙ free) (after_pass P reading) (with_state P D.state) (refusal_of D.fault))

  abbrev end_with : Progress C → ℕ → Body C → Option Flight → Progress C
  end_with P reading body o = with_answer (option_map (λ f. (end_step K P reading f body).answer) o) (with_end K P reading body o)

  end_own : (P : Progress C) (reading : ℕ) (body : Body C) (o : Option Flight) → is_due P reading ≡ true → is_some o ≡ true
      → end_with P reading body o ≡ end_with (after_pass P reading) reading body o
  end_own P reading body None due there = absurd (false≢true there)
  end_own P reading body (Some f) due there = ap {B = Progress C} (λ o. with_answer (Some o.answer) (with_outcome P o)) (ended P reading due f body)

  ends_own : (P : Progress C) (reading conn : ℕ) (body : Body C) → is_due P reading ≡ true → is_some (flight_of P.state conn) ≡ true
      → step K P (ends reading conn body) ≡ step K (after_pass P reading) (ends reading conn body)
  ends_own P reading conn body due there =
      end_own P reading body (flight_of P.state conn) due there ∙ ap (end_with (after_pass P reading) reading body) (sym (same_flights P reading conn))

  loss_on : (b : Bool) → b ≡ true → (P Q : Progress C) → (if b then Q else P) ≡ Q
  loss_on true there P Q = refl
  loss_on false there P Q = absurd (false≢true there)

  loss_own : (P : Progress C) (reading conn : ℕ) → is_due P reading ≡ true → is_some (flight_of P.state conn) ≡ true
      → step K P (loses reading conn) ≡ step K (after_pass P reading) (loses reading conn)
  loss_own P reading conn due there =
      let M = without_flight (start_of P reading) (moment P.state reading) conn in
      let N = without_flight (start_of (after_pass P reading) reading) (moment (after_pass P reading).state reading) conn in
      loss_on (is_some (flight_of P.state conn)) there P (with_state P M)
      ∙ ap (with_state P) (lost P reading due conn)
      ∙ sym (loss_on (is_some (flight_of (after_pass P reading).state conn)) (ap is_some (same_flights P reading conn) ∙ there) (after_pass P reading) (with_state P N))

  pub pass_of_its_own : (P : Progress C) (reading : ℕ) (s : Step C) → IsOnState P reading s → is_due P reading ≡ true → step K P s ≡ step K (step K P (passes reading)) s
  pass_of_its_own P reading (asks at token c) on due =
      ap (λ r. step K P (asks r token c)) on ∙ ask_own P reading due token c ∙ ap (λ r. step K (after_pass P reading) (asks r token c)) (sym on)
  pass_of_its_own P reading (begins at conn token u) on due =
      ap (λ r. step K P (begins r conn token u)) on.0 ∙ begin_own P reading conn token u due on.1 ∙ ap (λ r. step K (after_pass P reading) (begins r conn token u)) (sym on.0)
  pass_of_its_own P reading (ends at conn body) on due =
      ap (λ r. step K P (ends r conn body)) on.0 ∙ ends_own P reading conn body due on.1 ∙ ap (λ r. step K (after_pass P reading) (ends r conn body)) (sym on.0)
  pass_of_its_own P reading (loses at conn) on due =
      ap (λ r. step K P (loses r conn)) on.0 ∙ loss_own P reading conn due on.1 ∙ ap (λ r. step K (after_pass P reading) (loses r conn)) (sym on.0)
  pass_of_its_own P reading (passes at) on due = absurd on
  pass_of_its_own P reading (restarts at) on due = absurd on

  -- ---- the stored part

  not_due : (P : Progress C) (reading : ℕ) → is_due P reading ≡ false → start_of P reading ≡ P.state
  not_due P reading not_yet = ap (λ b. if b then with_pass P.state (moment P.state reading) else P.state) not_yet

  either_stored : (b : Bool) (P Q : Progress C) (S : State C) → stored_part P.state ≡ S → stored_part Q.state ≡ S → stored_part (if b then P else Q).state ≡ S
  either_stored true P Q S first second = first
  either_stored false P Q S first second = second

  begun_stored : (M : State C) (t conn : ℕ) (token : Option (List ℕ)) (u : UploadCall) (o : Option Fault) → stored_part (begin_as M t conn token u o).state ≡ stored_part M
  begun_stored M t conn token u (Some fault) = refl
  begun_stored M t conn token u None = refl

  pub begin_stored : (P : Progress C) (reading conn : ℕ) (token : Option (List ℕ)) (u : UploadCall) → is_due P reading ≡ false
      → stored_part (step K P (begins reading conn token u)).state ≡ stored_part P.state
  begin_stored P reading conn token u not_yet =
      let t = moment P.state reading in
      ap stored_part (answer_state (answer_to K P (begins reading conn token u)) (state_after K P (begins reading conn token u)))
      ∙ either_stored (is_some (flight_of P.state conn)) P (with_state P (begin_step P reading conn token u).state) (stored_part P.state) refl
      (begun_stored (start_of P reading) t conn token u (first_fault (begin_refusals (start_of P reading) t token u)) ∙ ap stored_part (not_due P reading not_yet))

  pub loss_stored : (P : Progress C) (reading conn : ℕ) → is_due P reading ≡ false → stored_part (step K P (loses reading conn)).state ≡ stored_part P.state
  loss_stored P reading conn not_yet =
      either_stored (is_some (flight_of P.state conn)) (with_state P (without_flight (start_of P reading) (moment P.state reading) conn)) P (stored_part P.state)
      (ap stored_part (not_due P reading not_yet)) refl
