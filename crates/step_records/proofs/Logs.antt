-- A log begins with a snapshot, and goes on with the records of a run.
use Rattle.std.proofs.Common.{◌≡◌, List, ◌++◌, All, Some, option_map, option_and_then, fold, ap, ◌∙◌}
use Rattle.b2_types.specs.declared.record.RecordOf.{RecordOf}
use Rattle.b2_model.specs.State.{State, Pieces}
use Rattle.b2_model.specs.Changes.{state_of_settings}
use Rattle.b2_model.specs.Stored.{stored_part, snapshot, replay_on, replay}
use Rattle.b2_model.specs.Run.{Step, Progress, step}
use Rattle.sound_states.specs.Sound.{IsSound}
use Rattle.sound_steps.specs.FitSteps.{IsFitStep}
use Rattle.snapshot_laws.proofs.Replayed.{before_numbers}
use Rattle.snapshot_laws.proofs.Snapshots.{entries_after, settles}
use Rattle.contents_steps.proofs.Replays.{on_more}
use Rattle.step_records.specs.StepRecords.{records_of_run, log_state}
use Rattle.step_records.proofs.Steps.{run_goes_on}

module _ {C : Type 0} where
  pub log_goes_on : (M : State C) (more : List (RecordOf C)) → IsSound M → replay (snapshot (stored_part M) ++ more) ≡ option_map (λ R. R.state) (replay_on (log_state M) more)
  log_goes_on M more sound =
      ap (option_map (λ R. R.state))
      (on_more (before_numbers (state_of_settings M.settings M.kept)) (entries_after (stored_part M)) more ∙ ap (option_and_then (λ R. replay_on R more)) (settles M sound))

  pub log_of_run : (K : Pieces C) (P : Progress C) (steps : List (Step C)) → IsSound P.state → All IsFitStep steps
      → replay (snapshot (stored_part P.state) ++ records_of_run K P steps) ≡ Some (stored_part (fold (step K) P steps).state)
  log_of_run K P steps sound fit = log_goes_on P.state (records_of_run K P steps) sound ∙ ap (option_map (λ R. R.state)) (run_goes_on K P steps sound fit)
