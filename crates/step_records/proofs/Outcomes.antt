-- A replay goes on with the record of an accepted call or end, and with the day's pass.
use Rattle.std.proofs.Common.{◌≡◌, ℕ, ◌≤◌, Bool, true, false, List, [], ◌∷◌, ◌++◌, Option, Some, None, if◌then◌else◌, refl, sym, ap, ◌∙◌, arith}
use Rattle.b2_types.specs.declared.fault.Fault.{Fault}
use Rattle.b2_types.specs.declared.record.RecordOf.{RecordOf}
use Rattle.b2_types.specs.declared.record.ChangeOf.{ChangeOf}
use Rattle.b2_types.specs.declared.record.ChangeOf.TheVariants as change
use Rattle.b2_types.specs.declared.upload.UploadCall.{UploadCall}
use Rattle.b2_model.specs.State.{State}
use Rattle.b2_model.specs.Plan.{Plan}
use Rattle.b2_model.specs.Ask.{at_moment, with_change, outcome_or_refusal}
use Rattle.b2_model.specs.UploadSteps.{begin_as}
use Rattle.b2_model.specs.Stored.{stored_part, replay_on, record_at}
use Rattle.b2_model.specs.Run.{Progress, moment, with_pass, start_of}
use Rattle.machine_laws.specs.Days.{is_due}
use Rattle.sound_steps.specs.FitSteps.{Applies}
use Rattle.given_once.specs.Tokens.{unless_refused}
use Rattle.step_records.specs.StepRecords.{record_of, pass_records, log_state}
use Rattle.step_records.proofs.Changed.{applies_stored, granted_stored, log_of, goes_on}

module _ {C : Type 0} where
  changed_goes_on : (M : State C) (t : ℕ) (o : Option (ChangeOf C)) → M.kept ≤ t → Applies M o → replay_on (log_state M) (record_of t o) ≡ Some (log_state (with_change (at_moment M t) t o))
  changed_goes_on M t None later applies = refl
  changed_goes_on M t (Some ch) later applies =
      goes_on (at_moment M t) t ch [] (sym (applies_stored (at_moment M t) ch) ∙ applies_stored M ch ∙ applies.0) applies.2 later

  pub outcome_goes_on : (M : State C) (t : ℕ) (words : List ℕ) (p : Plan C) (o : Option Fault) → M.kept ≤ t → (o ≡ None → Applies M p.change)
      → replay_on (log_state M) (record_of t (unless_refused o p.change)) ≡ Some (log_state (outcome_or_refusal M t words p o).state)
  outcome_goes_on M t words p (Some fault) later applies = refl
  outcome_goes_on M t words p None later applies =
      changed_goes_on M t p.change later (applies refl) ∙ ap (λ S. Some (log_of S)) (sym (granted_stored (with_change (at_moment M t) t p.change) p.grant))

  -- ---- the day's pass

  pub start_goes_on : (P : Progress C) (reading : ℕ) (rs : List (RecordOf C)) → P.state.kept ≤ P.state.now
      → replay_on (log_state P.state) (pass_records P reading ++ rs) ≡ replay_on (log_state (start_of P reading)) rs
  start_goes_on P reading rs before = by (is_due P reading)
    where
      by : (b : Bool) → replay_on (log_state P.state) ((if b then record_at (moment P.state reading) change.Pass ∷ [] else []) ++ rs)
          ≡ replay_on (log_state (if b then with_pass P.state (moment P.state reading) else P.state)) rs
      by true = goes_on P.state (moment P.state reading) change.Pass rs refl refl (omega (arith, before))
      by false = refl

  pub pass_goes_on : (P : Progress C) (reading : ℕ) → P.state.kept ≤ P.state.now → replay_on (log_state P.state) (pass_records P reading) ≡ Some (log_state (start_of P reading))
  pass_goes_on P reading before = by (is_due P reading)
    where
      by : (b : Bool) → replay_on (log_state P.state) (if b then record_at (moment P.state reading) change.Pass ∷ [] else [])
          ≡ Some (log_state (if b then with_pass P.state (moment P.state reading) else P.state))
      by true = goes_on P.state (moment P.state reading) change.Pass [] refl refl (omega (arith, before))
      by false = refl

  -- a begin writes nothing
  pub begun_stored : (M : State C) (t conn : ℕ) (token : Option (List ℕ)) (u : UploadCall) (o : Option Fault) → stored_part (begin_as M t conn token u o).state ≡ stored_part M
  begun_stored M t conn token u (Some fault) = refl
  begun_stored M t conn token u None = refl
