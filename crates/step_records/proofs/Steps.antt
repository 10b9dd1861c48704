-- A replay goes on with the records of a step, and of a run.
use Rattle.std.proofs.Common.{◌≡◌, ℕ, ◌+◌, nat_lt, Bool, true, false, List, [], ◌∷◌, ◌++◌, All, Option, Some, None, option_and_then, fold, if◌then◌else◌, refl, sym, ap, ◌∙◌, arith}
use Rattle.std.specs.Option.{is_some}
use Rattle.std.proofs.lemmas.Bool.Decides.{nat_tests}
use Rattle.std.proofs.lemmas.List.Elements.{All-head, All-tail}
use Rattle.b2_types.specs.declared.key.Flight.{Flight}
use Rattle.b2_types.specs.declared.record.RecordOf.{RecordOf}
use Rattle.b2_types.specs.declared.record.ChangeOf.TheVariants as change
use Rattle.b2_model.specs.Body.{Body}
use Rattle.b2_model.specs.Checks.{first_fault}
use Rattle.b2_model.specs.State.{Pieces}
use Rattle.b2_model.specs.Policy.{caller_of}
use Rattle.b2_model.specs.Ask.{plan_of, refusals_of}
use Rattle.b2_model.specs.UploadSteps.{begin_refusals, end_plan, without_flight, flight_of}
use Rattle.b2_model.specs.Stored.{replay_on}
use Rattle.b2_model.specs.Run.{Step, asks, begins, ends, loses, passes, restarts, Progress, moment, at_kept, start_of, with_state, with_end, begin_step, answer_to, state_after, step}
use Rattle.machine_laws.specs.Rules.{end_refusals}
use Rattle.machine_laws.proofs.Moments.{answer_state}
use Rattle.sound_states.specs.Sound.{IsSound}
use Rattle.sound_steps.specs.FitSteps.{IsFitStep}
use Rattle.sound_steps.proofs.Outcomes.{ask_applies, end_applies, landed, start_sound, start_kept, step_sound}
use Rattle.contents_steps.proofs.Replays.{on_more}
use Rattle.step_records.specs.StepRecords.{pass_records, end_records, records_of, records_of_run, log_state}
use Rattle.step_records.proofs.Changed.{log_of, goes_on}
use Rattle.step_records.proofs.Outcomes.{outcome_goes_on, start_goes_on, pass_goes_on, begun_stored}

module _ {C : Type 0} (K : Pieces C) where
  -- no step, or one that writes the pass alone
  or_pass : (P : Progress C) (reading : ℕ) (b : Bool) (Q : Progress C) → IsSound P.state → log_state Q.state ≡ log_state (start_of P reading)
      → replay_on (log_state P.state) (if b then [] else pass_records P reading) ≡ Some (log_state (if b then P else Q).state)
  or_pass P reading true Q sound same = refl
  or_pass P reading false Q sound same = pass_goes_on P reading sound.moments ∙ ap Some (sym same)

  pass_or : (P : Progress C) (reading : ℕ) (b : Bool) (Q : Progress C) → IsSound P.state → log_state Q.state ≡ log_state (start_of P reading)
      → replay_on (log_state P.state) (if b then pass_records P reading else []) ≡ Some (log_state (if b then Q else P).state)
  pass_or P reading true Q sound same = pass_goes_on P reading sound.moments ∙ ap Some (sym same)
  pass_or P reading false Q sound same = refl

  ended_goes_on : (P : Progress C) (reading : ℕ) (body : Body C) (o : Option Flight) → IsSound P.state → replay_on (log_state P.state) (end_records K P reading body o) ≡ Some (log_state (with_end K P reading body o).state)
  ended_goes_on P reading body None sound = refl
  ended_goes_on P reading body (Some f) sound =
      let M = start_of P reading in
      let t = moment P.state reading in
      let N = without_flight M t f.conn in
      let whole = landed M t f.conn (start_kept P reading sound) (start_sound P reading sound) in
      start_goes_on P reading _ sound.moments
      ∙ outcome_goes_on N t P.words (end_plan K.size N t (caller_of N (Some f.token)).key body f.upload) (first_fault (end_refusals K.size M t f body)) (start_kept P reading sound)
      (end_applies K.size M t f body whole)

  after_goes_on : (P : Progress C) (s : Step C) → IsSound P.state → IsFitStep s → replay_on (log_state P.state) (records_of K P s) ≡ Some (log_state (state_after K P s).state)
  after_goes_on P (asks reading token c) sound fit =
      let M = start_of P reading in
      let t = moment P.state reading in
      start_goes_on P reading _ sound.moments
      ∙ outcome_goes_on M t P.words (plan_of K M t P.words token c) (first_fault (refusals_of K M t P.words token c)) (start_kept P reading sound)
      (ask_applies K M t P.words token c (start_sound P reading sound) fit)
  after_goes_on P (begins reading conn token u) sound fit =
      let M = start_of P reading in
      let t = moment P.state reading in
      or_pass P reading (is_some (flight_of P.state conn)) (with_state P (begin_step P reading conn token u).state) sound
      (ap log_of (begun_stored M t conn token u (first_fault (begin_refusals M t token u))))
  after_goes_on P (ends reading conn body) sound fit = ended_goes_on P reading body (flight_of P.state conn) sound
  after_goes_on P (loses reading conn) sound fit =
      pass_or P reading (is_some (flight_of P.state conn)) (with_state P (without_flight (start_of P reading) (moment P.state reading) conn)) sound refl
  after_goes_on P (passes reading) sound fit = let before = sound.moments in goes_on P.state (moment P.state reading) change.Pass [] refl refl (omega (arith, before))
  after_goes_on P (restarts reading) sound fit =
      let next : nat_lt P.state.boot (P.state.boot + 1) ≡ true = grind (arith, nat_tests) in
      goes_on (at_kept P.state) (moment (at_kept P.state) reading) (change.Boot (P.state.boot + 1)) [] next refl (omega arith)

  pub step_goes_on : (P : Progress C) (s : Step C) → IsSound P.state → IsFitStep s → replay_on (log_state P.state) (records_of K P s) ≡ Some (log_state (step K P s).state)
  step_goes_on P s sound fit = after_goes_on P s sound fit ∙ ap (λ M. Some (log_state M)) (sym (answer_state (answer_to K P s) (state_after K P s)))

  -- then comes what follows
  pub then_goes_on : (P : Progress C) (s : Step C) (rs : List (RecordOf C)) → IsSound P.state → IsFitStep s → replay_on (log_state P.state) (records_of K P s ++ rs) ≡ replay_on (log_state (step K P s).state) rs
  then_goes_on P s rs sound fit =
      on_more (log_state P.state) (records_of K P s) rs ∙ ap (option_and_then (λ R. replay_on R rs)) (step_goes_on P s sound fit)

  pub run_goes_on : (P : Progress C) (steps : List (Step C)) → IsSound P.state → All IsFitStep steps → replay_on (log_state P.state) (records_of_run K P steps) ≡ Some (log_state (fold (step K) P steps).state)
  run_goes_on P [] sound fit = refl
  run_goes_on P (s ∷ steps) sound fit =
      let first = All-head IsFitStep s steps fit in
      then_goes_on P s (records_of_run K (step K P s) steps) sound first
      ∙ run_goes_on (step K P s) steps (step_sound K P s sound first) (All-tail IsFitStep s steps fit)
