-- Versions that were sorted by number are those by number.
use Rattle.std.proofs.Common.{◌≡◌, ◌≢◌, ℕ, ◌<◌, ◌≤◌, ◌⊎◌, ◌==◌, true, false, cond, List, [], ◌∷◌, length, get_or, map, subst, sym, ap, ◌∙◌, inl, inr, ⊎_elim, refl, arith}
use Rattle.std.specs.List.{AllPairs, swap}
use Rattle.std.specs.List.Sorted.{IsNonDecreasingBy, IsPermutation}
use Rattle.std.proofs.lemmas.Bool.{cases_Bool, eqb-true, eqb-false}
use Rattle.std.proofs.lemmas.Bool.Decides.{nat_tests}
use Rattle.std.proofs.lemmas.List.{get_or-map, length-map}
use Rattle.std.proofs.lemmas.List.Edits.{length-swap, swapped_from_swap}
use Rattle.std.proofs.lemmas.List.Sorted.{Contains-permutation, IsPermutation-keeps, IsPermutation-map, IsPermutation-sym, IsPermutation-trans}
use Rattle.b2_types.specs.declared.version.VersionOf.{VersionOf}
use Rattle.index_rows.specs.OwnRows.{AreNumbered}
use Rattle.kept_versions.proofs.Numbered.{one_list}

-- the place that a place has after a swap of two
abbrev from : ℕ → ℕ → ℕ → ℕ
from a b i = cond (i == a) b (cond (i == b) a i)

back : (a b i : ℕ) → from a b (from a b i) ≡ i
back a b i = grind (arith, nat_tests)

from_below : (a b i n : ℕ) → a < n → b < n → i < n → from a b i < n
from_below a b i n low high within = grind (arith, nat_tests)

module _ {X : Type 0} (num : X → ℕ) where
  -- the numbers at two places differ
  abbrev AreApart : List X → Type 0
  AreApart xs = (i j : ℕ) (d : X) → i < length xs → j < length xs → num (get_or xs i d) ≡ num (get_or xs j d) → i ≡ j

  swapped : (xs : List X) (a b : ℕ) → a < length xs → b < length xs → AreApart xs → AreApart (swap xs a b)
  swapped xs a b low high apart i j d first second same =
      let many = length-swap xs a b in
      let here : i < length xs = subst (λ n. i < n) many first in
      let there : j < length xs = subst (λ n. j < n) many second in
      let equal : from a b i ≡ from a b j = apart (from a b i) (from a b j) d (from_below a b i (length xs) low high here) (from_below a b j (length xs) low high there) (sym (ap num (at i d)) ∙ same ∙ ap num (at j d)) in
      sym (back a b i) ∙ ap (from a b) equal ∙ back a b j
    where
      at : (k : ℕ) (d : X) → get_or (swap xs a b) k d ≡ get_or xs (from a b k) d
      at k d =
          let s = swapped_from_swap xs (swap xs a b) a b d low high refl in
          ⊎_elim
          (λ (is : (k == a) ≡ true). rw is (ap (λ n. get_or (swap xs a b) n d) (eqb-true k a is) ∙ s.0))
          (λ (no : (k == a) ≡ false). rw no (⊎_elim
          (λ (is : (k == b) ≡ true). rw is (ap (λ n. get_or (swap xs a b) n d) (eqb-true k b is) ∙ s.1))
          (λ (other : (k == b) ≡ false). rw other (s.2 k (eqb-false k a no) (eqb-false k b other)))
          (cases_Bool (k == b))))
          (cases_Bool (k == a))

  apart_from : (xs : List X) → AllPairs (λ x y. num x < num y) xs → AreApart xs
  apart_from xs up i j d first second same = ⊎_elim
      (λ (is : (i == j) ≡ true). eqb-true i j is)
      (λ (no : (i == j) ≡ false). absurd (far (eqb-false i j no)))
      (cases_Bool (i == j))
    where
      order : i ≢ j → (i < j) ⊎ (j < i)
      order other = grind (arith, other)

      far : i ≢ j → ⊥
      far other = elim (order other) [
        | inl low ↦ (let less = up i j d low second in omega (arith, less, same))
        | inr low ↦ (let less = up j i d low first in omega (arith, less, same))
      ]

  up_from : (xs : List X) → IsNonDecreasingBy num xs → AreApart xs → AllPairs (λ x y. num x < num y) xs
  up_from xs order apart i j d low within = ⊎_elim
      (λ (is : (num (get_or xs i d) == num (get_or xs j d)) ≡ true). let same = apart i j d (omega (arith, low, within)) within (eqb-true (num (get_or xs i d)) (num (get_or xs j d)) is) in absurd (omega (arith, low, same)))
      (λ (no : (num (get_or xs i d) == num (get_or xs j d)) ≡ false). let least = order i j d (omega (arith, low)) within in let other = eqb-false (num (get_or xs i d)) (num (get_or xs j d)) no in grind (arith, least, other))
      (cases_Bool (num (get_or xs i d) == num (get_or xs j d)))

  -- of what is shown of some items the numbers don't fall, where those of the items don't
  shown_order : {B : Type 0} (f : B → X) (bs : List B) → IsNonDecreasingBy (λ b. num (f b)) bs → IsNonDecreasingBy num (map f bs)
  shown_order f [] order i j e le within = absurd (omega (arith, within))
  shown_order f (b ∷ bs) order i j e le within =
      let inside : j < length (b ∷ bs) = subst (λ n. j < n) (length-map (b ∷ bs) f) within in
      let first = get_or-map f (b ∷ bs) i b e (omega (arith, le, inside)) in
      let second = get_or-map f (b ∷ bs) j b e inside in
      subst (λ (x : X). num x ≤ num (get_or (map f (b ∷ bs)) j e)) (sym first) (subst (λ (y : X). num (f (get_or (b ∷ bs) i b)) ≤ num y) (sym second) (order i j b le inside))

-- what is shown of sorted items are the versions
pub sorted_is : {B C : Type 0} (f : B → VersionOf C) (bs cs : List B) (vs : List (VersionOf C)) → IsPermutation (map f bs) vs → IsPermutation bs cs → IsNonDecreasingBy (λ b. (f b).num) cs → AreNumbered vs → map f cs ≡ vs
sorted_is f bs cs vs held moved order up =
    let same : IsPermutation vs (map f cs) = IsPermutation-trans vs (map f bs) (map f cs) (IsPermutation-sym (map f bs) vs held) (IsPermutation-map f bs cs moved) in
    let apart = IsPermutation-keeps vs (AreApart (λ v. v.num)) (apart_from (λ v. v.num) vs up) (λ l i j low high is. swapped (λ v. v.num) l i j low high is) (map f cs) same in
    let ascends = up_from (λ v. v.num) (map f cs) (shown_order (λ v. v.num) f cs order) apart in
    one_list (map f cs) vs ascends up (λ v. (λ a. Contains-permutation (map f cs) vs v (IsPermutation-sym vs (map f cs) same) a, λ a. Contains-permutation vs (map f cs) v same a))

-- no two of the versions in another order have one number
pub apart_pairs : {C : Type 0} (xs vs : List (VersionOf C)) → IsPermutation xs vs → AreNumbered vs → AllPairs (λ v w. v.num ≢ w.num) xs
apart_pairs xs vs moved up i j d low within = λ same.
    let apart = IsPermutation-keeps vs (AreApart (λ v. v.num)) (apart_from (λ v. v.num) vs up) (λ l a b first second is. swapped (λ v. v.num) l a b first second is) xs (IsPermutation-sym xs vs moved) in
    let one = apart i j d (omega (arith, low, within)) within same in
    omega (arith, low, one)
