-- Each replay gives a sound state.
use Rattle.std.proofs.Common.{◌≡◌, ℕ, nat_lt, Bool, true, false, not, ◌&&◌, ◌||◌, List, [], ◌∷◌, All, Some, None, option_map, if◌then◌else◌, refl, subst}
use Rattle.std.proofs.lemmas.Option.{none-some}
use Rattle.std.proofs.lemmas.List.Elements.{All-head, All-tail}
use Rattle.b2_types.specs.declared.record.RecordOf.{RecordOf}
use Rattle.b2_types.specs.declared.record.ChangeOf.{ChangeOf}
use Rattle.b2_types.specs.declared.record.ChangeOf.TheVariants as change
use Rattle.b2_model.specs.State.{State}
use Rattle.b2_model.specs.Stored.{applies_change, is_snap_state, Replayed, applies, replay_one, replay_on, replay_from, replay}
use Rattle.b2_model.specs.Changes.{state_of_settings}
use Rattle.sound_states.specs.Sound.{IsSound, IsFitChange}
use Rattle.sound_states.proofs.Tests.{both_hold}
use Rattle.sound_states.proofs.Found.{same_found}
use Rattle.sound_states.proofs.Made.{settings_sound}
use Rattle.sound_states.proofs.Records.{record_sound}

module _ {C : Type 0} where
  abbrev IsFitRecord : RecordOf C → Type 0
  IsFitRecord r = IsFitChange r.change

  pub on_sound : (R : Replayed C) (rs : List (RecordOf C)) (S : State C) → IsSound R.state → All IsFitRecord rs → option_map (λ R. R.state) (replay_on R rs) ≡ Some S → IsSound S
  on_sound R [] S sound fit is = subst IsSound (same_found R.state S is) sound
  on_sound R (r ∷ rs) S sound fit is =
      goes_on (applies R r) refl is (λ goes.
      on_sound (replay_one R r) rs S
      (record_sound R.state r.at r.change sound (both_hold (applies_change R.state r.change) (not (R.settled && (is_snap_state r.change || nat_lt r.at R.state.kept))) goes).0 (All-head IsFitRecord r rs fit))
      (All-tail IsFitRecord r rs fit))
    where
      goes_on : (b : Bool) → applies R r ≡ b → option_map (λ R. R.state) (if b then replay_on (replay_one R r) rs else None) ≡ Some S
          → (applies R r ≡ true → option_map (λ R. R.state) (replay_on (replay_one R r) rs) ≡ Some S → IsSound S) → IsSound S
      goes_on true goes found rest = rest goes found
      goes_on false goes found rest = absurd (none-some S found)

  from_sound : (t : ℕ) (ch : ChangeOf C) (rs : List (RecordOf C)) (S : State C) → All IsFitRecord rs → option_map (λ R. R.state) (replay_from t ch rs) ≡ Some S → IsSound S
  from_sound t (change.Settings s) rs S fit is = on_sound (record { state = state_of_settings s t; settled = false }) rs S (settings_sound s t) fit is
  from_sound t other rs S fit is = absurd (none-some S is)

  pub replay_sound : (rs : List (RecordOf C)) (S : State C) → All IsFitRecord rs → replay rs ≡ Some S → IsSound S
  replay_sound [] S fit is = absurd (none-some S is)
  replay_sound (r ∷ rs) S fit is = from_sound r.at r.change rs S (All-tail IsFitRecord r rs fit) is
