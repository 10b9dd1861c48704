-- A record on the stored part of a state makes the stored part of what it makes of the state.
use Rattle.std.proofs.Common.{◌≡◌, ℕ, ◌≤◌, nat_lt, true, false, not, ◌&&◌, ◌||◌, List, ◌∷◌, Option, Some, None, if◌then◌else◌, refl, ap, ◌∙◌, arith}
use Rattle.std.proofs.lemmas.Bool.Decides.{nat_tests}
use Rattle.b2_types.specs.declared.key.Grant.{Grant}
use Rattle.b2_types.specs.declared.record.RecordOf.{RecordOf}
use Rattle.b2_types.specs.declared.record.ChangeOf.{ChangeOf}
use Rattle.b2_types.specs.declared.record.ChangeOf.TheVariants as change
use Rattle.b2_model.specs.State.{State}
use Rattle.b2_model.specs.Changes.{after_record}
use Rattle.b2_model.specs.Ask.{with_grant}
use Rattle.b2_model.specs.Stored.{stored_part, applies_change, is_snap_state, Replayed, replay_one, replay_on, record_at}
use Rattle.step_records.specs.StepRecords.{log_state}
use Rattle.step_records.proofs.Passed.{passed_stored}

module _ {C : Type 0} where
  pub applies_stored : (M : State C) (ch : ChangeOf C) → applies_change (stored_part M) ch ≡ applies_change M ch
  applies_stored M change.Pass = refl
  applies_stored M other = refl

  pub changed_stored : (M : State C) (t : ℕ) (ch : ChangeOf C) → after_record (stored_part M) (record_at t ch) ≡ stored_part (after_record M (record_at t ch))
  changed_stored M t change.Pass = passed_stored t M
  changed_stored M t other = refl

  pub granted_stored : (M : State C) (o : Option Grant) → stored_part (with_grant o M) ≡ stored_part M
  granted_stored M None = refl
  granted_stored M (Some g) = refl

  abbrev pub log_of : State C → Replayed C
  log_of S = record { state = S; settled = true }

  -- a replay goes on with one record
  pub goes_on : (M : State C) (t : ℕ) (ch : ChangeOf C) (rs : List (RecordOf C)) → applies_change M ch ≡ true → is_snap_state ch ≡ false → M.kept ≤ t
      → replay_on (log_state M) (record_at t ch ∷ rs) ≡ replay_on (log_state (after_record M (record_at t ch))) rs
  goes_on M t ch rs fits other later =
      let not_before : nat_lt t M.kept ≡ false = grind (arith, nat_tests, later) in
      ap (λ b. if b && not (true && (is_snap_state ch || nat_lt t M.kept)) then replay_on (replay_one (log_state M) (record_at t ch)) rs else None) (applies_stored M ch ∙ fits)
      ∙ ap (λ b. if true && not (true && (b || nat_lt t M.kept)) then replay_on (replay_one (log_state M) (record_at t ch)) rs else None) other
      ∙ ap (λ b. if true && not (true && (false || b)) then replay_on (replay_one (log_state M) (record_at t ch)) rs else None) not_before
      ∙ ap (λ S. replay_on (log_of S) rs) (changed_stored M t ch)
