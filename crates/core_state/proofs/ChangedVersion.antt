-- A version that is taken out, changed, and put back.
use Rattle.std.proofs.Common.{◌≡◌, ℕ, ◌==◌, ◌&&◌, true, false, not, Some, find, filter, subst, sym, ap, ◌∙◌}
use Rattle.std.specs.List.{list_any}
use Rattle.b2_base.specs.declared.extent.Extent.{Extent}
use Rattle.b2_types.specs.declared.record.ChangeOf.{ChangeOf}
use Rattle.b2_types.specs.declared.record.VersionId.{VersionId}
use Rattle.b2_types.specs.declared.version.VersionOf.{VersionOf}
use Rattle.b2_model.specs.Changes.{after_change, after_record}
use Rattle.b2_model.specs.Lists.{put_by}
use Rattle.b2_model.specs.State.{State}
use Rattle.b2_model.specs.Stored.{applies_change}
use Rattle.b2_model.specs.Version.{at_version}
use Rattle.sound_states.specs.Sound.{IsFitChange}
use Rattle.core_state.specs.declared.parts.Parts.{Parts}
use Rattle.core_state.specs.View.{IsWhole, state_of}
use Rattle.core_state.proofs.SameNumber.{same_number}
use Rattle.core_state.proofs.Whole.{Made, changed, free_again}

-- the parts are those after the record, which is one of the state that they were
pub record MadeOf (q : Parts) (M : State Extent) (t : ℕ) (change : ChangeOf Extent) : Type 0 where
  pub whole : IsWhole q
  pub state : state_of q ≡ after_record M (record { at = t; change = change })

pub of_state : (p q : Parts) (M : State Extent) (t : ℕ) (change : ChangeOf Extent) → state_of p ≡ M → Made p q t change → MadeOf q M t change
of_state p q M t change is made = record {
  whole = made.whole;
  state = made.state ∙ ap (λ N. after_record N (record { at = t; change = change })) is;
}

-- the change keeps the number of each version
abbrev pub KeepsNumbers : (VersionOf Extent → VersionOf Extent) → Type 0
KeepsNumbers f = (w : VersionOf Extent) → (f w).num ≡ w.num

its_number : (p : Parts) (id : VersionId) (f : VersionOf Extent → VersionOf Extent) (v u : VersionOf Extent) → IsWhole p → KeepsNumbers f
    → find (λ w. w.bucket == id.bucket && w.num == id.num) p.versions ≡ Some v → u ≡ f v → u.num ≡ id.num
its_number p id f v u whole keeps found is = ap (λ (w : VersionOf Extent). w.num) is ∙ keeps v ∙ same_number p id v whole found

-- its number is free meanwhile
pub still_free : (p m : Parts) (id : VersionId) (f : VersionOf Extent → VersionOf Extent) (v u : VersionOf Extent) → IsWhole p → KeepsNumbers f
    → find (λ w. w.bucket == id.bucket && w.num == id.num) p.versions ≡ Some v
    → m ≡ record p { versions = filter (λ w. not (w.bucket == id.bucket && w.num == id.num)) p.versions }
    → u ≡ f v → list_any (λ w. w.num == u.num) m.versions ≡ false
still_free p m id f v u whole keeps found less is = free_again p m id v u whole found less (its_number p id f v u whole keeps found is)

pub changed_by : (p m q : Parts) (M : State Extent) (t : ℕ) (change : ChangeOf Extent) (id : VersionId) (f : VersionOf Extent → VersionOf Extent) (v u : VersionOf Extent)
    → IsWhole p → state_of p ≡ M → KeepsNumbers f → applies_change M change ≡ true → IsFitChange change
    → find (λ w. w.bucket == id.bucket && w.num == id.num) p.versions ≡ Some v
    → m ≡ record p { versions = filter (λ w. not (w.bucket == id.bucket && w.num == id.num)) p.versions }
    → u ≡ f v
    → q ≡ record m { now = t; kept = t; versions = put_by (λ w. w.num) u m.versions }
    → at_version id f (state_of p) ≡ after_change t change (state_of p) → MadeOf q M t change
changed_by p m q M t change id f v u whole state keeps applies fit found less is more after =
    of_state p q M t change state
    (changed p m q t change id f v u whole (subst (λ N. applies_change N change ≡ true) (sym state) applies) fit found less (its_number p id f v u whole keeps found is) is more after)
