-- What the calls do to a room, by what they do to the map of its holes.
use Rattle.std.proofs.Common.{◌≡◌, ℕ, ◌<◌, ◌≤◌, Option, Some, map, inl, inr, ⊎_elim, refl, arith}
use Rattle.std.proofs.lemmas.Bool.{cases_lt, cases_order}
use Rattle.std.specs.BTreeMap.{BTreeMap, IsOrdered, get}
use Rattle.std.specs.Ordering.{nat_cmp}
use Rattle.extent_space.specs.Room.{IsFilled, IsUsed, IsWhole, Room}
use Rattle.extent_space.specs.Holes.{AddsHole, AreHoles, IsCut, IsInNone, hole_of}
use Rattle.extent_space.proofs.Cuts.{cut_holes, cut_used}
use Rattle.extent_space.proofs.Raises.{raised_holes, raised_used}
use Rattle.extent_space.proofs.Views.{tidy_by_map, used_by_map}

abbrev pub room_of : BTreeMap ℕ ℕ → ℕ → ℕ → Room
room_of m end limit = record { holes = map hole_of m.entries; end = end; limit = limit }

-- a map with the same entries has the same holes
pub same_holes : (m n : BTreeMap ℕ ℕ) (end limit : ℕ) → n.entries ≡ m.entries → AreHoles (get nat_cmp m) end limit → AreHoles (get nat_cmp n) end limit
same_holes m n end limit same holes = rw same holes

pub same_room : (m n : BTreeMap ℕ ℕ) (end limit : ℕ) → n.entries ≡ m.entries → room_of n end limit ≡ room_of m end limit
same_room m n end limit same = rw same refl

-- the byte at which a hole ends is in use
pub end_in_use : {f : ℕ → Option ℕ} {end limit : ℕ} → AreHoles f end limit → (last first : ℕ) → f last ≡ Some first → (last < end) × IsInNone f last
end_in_use {f} holes last first hole = (
  (holes.each last first hole).before,
  λ q c is. elim (cases_order q last) [
    | inl e ↦ inr (omega (arith, e))
    | inr (inl low) ↦ inr (omega arith)
    | inr (inr high) ↦ inl (holes.apart last first q c hole is high)
  ],
)

module _ (m n : BTreeMap ℕ ℕ) (ordered : IsOrdered nat_cmp m) (still : IsOrdered nat_cmp n) (end limit x y : ℕ) (holes : AreHoles (get nat_cmp m) end limit) (some : x < y) (free : (b : ℕ) → x ≤ b → b < y → IsUsed (room_of m end limit) b → ⊥) where
  -- a hole with the first of some free bytes has all of them
  pub hole_has_all : (first last : ℕ) → get nat_cmp m last ≡ Some first → first ≤ x → x < last → (first ≤ x) × (x < y) × (y ≤ last)
  hole_has_all first last hole low high = (low, some, ⊎_elim (λ (short : last < y). absurd (free last (omega arith) short ((used_by_map m ordered end limit last).1 (end_in_use holes last first hole)))) (λ (l : y ≤ last). l) (cases_lt last y))

  -- where no hole has it, it lies past the end
  pub past_end : IsInNone (get nat_cmp m) x → end ≤ x
  past_end none = ⊎_elim (λ (low : x < end). absurd (free x (omega arith) some ((used_by_map m ordered end limit x).1 (low, none)))) (λ (l : end ≤ x). l) (cases_lt x end)

  pub cut_is_tidy : (first last : ℕ) → get nat_cmp m last ≡ Some first → first ≤ x → x < last → IsCut (get nat_cmp m) (get nat_cmp n) first last x y → IsWhole x → IsWhole y → AreHoles (get nat_cmp n) end limit
  cut_is_tidy first last hole low high cut whole_x whole_y = cut_holes (get nat_cmp m) (get nat_cmp n) end limit first last x y holes hole low some (hole_has_all first last hole low high).2 cut whole_x whole_y

  pub raise_is_tidy : IsInNone (get nat_cmp m) x → y ≤ limit → AddsHole (get nat_cmp m) (get nat_cmp n) end x → IsWhole x → IsWhole y → AreHoles (get nat_cmp n) y limit
  raise_is_tidy none within added whole_x whole_y = raised_holes (get nat_cmp m) (get nat_cmp n) end limit x y holes (past_end none) some within added whole_x whole_y

  pub filled_hole : (first last : ℕ) → get nat_cmp m last ≡ Some first → first ≤ x → x < last → IsCut (get nat_cmp m) (get nat_cmp n) first last x y → IsWhole x → IsWhole y → IsFilled (room_of m end limit) x y (room_of n end limit)
  filled_hole first last hole low high cut whole_x whole_y =
      let all = hole_has_all first last hole low high in
      let used = cut_used (get nat_cmp m) (get nat_cmp n) end limit first last x y holes hole low some all.2 cut in record {
        used = λ b. let before = used_by_map m ordered end limit b in let after = used_by_map n still end limit b in (
          λ u. elim ((used b).0 (after.0 u)) [ inl v ↦ inl (before.1 v) | inr v ↦ inr v ],
          λ u. after.1 ((used b).1 (elim u [ inl v ↦ inl (before.0 v) | inr v ↦ inr v ])),
        );
        same_limit = refl;
        tidy = tidy_by_map n still end limit (cut_is_tidy first last hole low high cut whole_x whole_y);
      }

  pub filled_end : IsInNone (get nat_cmp m) x → y ≤ limit → AddsHole (get nat_cmp m) (get nat_cmp n) end x → IsWhole x → IsWhole y → IsFilled (room_of m end limit) x y (room_of n y limit)
  filled_end none within added whole_x whole_y =
      let used = raised_used (get nat_cmp m) (get nat_cmp n) end limit x y holes (past_end none) some within added in record {
        used = λ b. let before = used_by_map m ordered end limit b in let after = used_by_map n still y limit b in (
          λ u. elim ((used b).0 (after.0 u)) [ inl v ↦ inl (before.1 v) | inr v ↦ inr v ],
          λ u. after.1 ((used b).1 (elim u [ inl v ↦ inl (before.0 v) | inr v ↦ inr v ])),
        );
        same_limit = refl;
        tidy = tidy_by_map n still y limit (raise_is_tidy none within added whole_x whole_y);
      }
