-- Whether an extent is in use, by the first byte behind its front that isn't.
use Rattle.std.proofs.Common.{◌≡◌, ℕ, ◌<◌, ◌≤◌, ◌+◌, ◌-◌, inl, inr, ⊎_elim, refl, arith}
use Rattle.std.specs.BTreeMap.{BTreeMap, IsOrdered, get}
use Rattle.std.specs.Ordering.{nat_cmp}
use Rattle.std.proofs.lemmas.Bool.{cases_lt}
use Rattle.b2_base.specs.declared.extent.Extent.{Extent}
use Rattle.extent_space.specs.Room.{IsTaken, IsUsed, IsWhole}
use Rattle.extent_space.specs.Holes.{AreHoles, IsFreeFrom}
use Rattle.extent_space.proofs.Rooms.{room_of}
use Rattle.extent_space.proofs.Views.{used_by_map}

module _ (m : BTreeMap ℕ ℕ) (ordered : IsOrdered nat_cmp m) (end limit : ℕ) (holes : AreHoles (get nat_cmp m) end limit) (e : Extent) (free : ℕ) (f : IsFreeFrom (get nat_cmp m) e.at end free) where
  -- it is whole, and not past the end
  whole_and_within : e.at < free → IsWhole free × (free ≤ end)
  whole_and_within low = elim f.here [
    | inl is ↦ (rw is holes.whole, omega (arith, is))
    | inr (to, from, there, start, inside, behind, which) ↦ let h = holes.each to from there in elim which [
      | inl same ↦ absurd (omega (arith, same))
      | inr same ↦ (rw same h.from, omega (arith, h.before))
    ]
  ]

  pub in_use : IsWhole e.at → e.at < free → e.len ≤ free - e.at → IsTaken (room_of m end limit) e
  in_use whole low fits =
      let w = whole_and_within low in
      inr (whole, λ b inside. (used_by_map m ordered end limit b).1 (omega (arith, inside, w), f.before b inside.0 (omega (arith, inside, w, whole, fits))))

  -- the first byte that isn't in use is none of its bytes
  not_free : (b : ℕ) → b ≡ free → IsUsed (room_of m end limit) b → ⊥
  not_free b is used = let u = (used_by_map m ordered end limit b).0 used in elim f.here [
    | inl same ↦ omega (arith, u.0, is, same)
    | inr (to, from, there, start, inside, behind, which) ↦ ⊎_elim (λ (low : b < from). omega (arith, is)) (λ (high : to ≤ b). omega (arith, is)) (u.1 to from there)
  ]

  behind_front : IsUsed (room_of m end limit) e.at → e.at < free
  behind_front used = ⊎_elim (λ (low : e.at < free). low) (λ (high : free ≤ e.at). absurd (not_free e.at (at_free high) used)) (cases_lt e.at free) where
    at_free : free ≤ e.at → e.at ≡ free
    at_free high = elim f.here [
      | inl same ↦ let u = (used_by_map m ordered end limit e.at).0 used in absurd (omega (arith, u.0, same, high))
      | inr (to, from, there, start, inside, behind, which) ↦ omega (arith, behind, high)
    ]

  pub told : IsTaken (room_of m end limit) e → 0 < e.len → IsWhole e.at × (e.at < free) × (e.len ≤ free - e.at)
  told taken some = elim taken [
    | inl none ↦ absurd (omega (arith, none))
    | inr t ↦ let low = behind_front (t.1 e.at (omega arith, omega arith)) in
        (t.0, low, ⊎_elim (λ (past : free < e.at + e.len). absurd (not_free free refl (t.1 free (omega (arith, low), omega (arith, past))))) (λ (fits : e.at + e.len ≤ free). omega arith) (cases_lt free (e.at + e.len)))
  ]
