-- A row with a number above all others comes in.
use Rattle.std.proofs.Common.{◌≡◌, ℕ, ◌+◌, true, false, None, List, [], ◌∷◌, ap, ⊎_elim, refl, arith, is_lt}
use Rattle.std.proofs.lemmas.Bool.{cases_Bool}
use Rattle.version_index.specs.declared.spot.Spot.{Spot}
use Rattle.version_index.specs.Rows.{is_spot, listing_cmp, placed, value_at}
use Rattle.version_index.proofs.Members.{one_spot}
use Rattle.bench_index.specs.Fresh.{AreBelow}

module _ {V : Type 0} where
  pub free : (s : Spot) (rows : List (Spot × V)) → AreBelow s.num rows → value_at s rows ≡ None
  free s [] below = refl
  free s (r ∷ rs) below = ⊎_elim
      (λ (is : is_spot s r.0 ≡ true). absurd (let same = ap (λ t. t.num) (one_spot s r.0 is) in let low = below.0 in omega arith))
      (λ (no : is_spot s r.0 ≡ false). rw no (free s rs below.1))
      (cases_Bool (is_spot s r.0))

  above : (num : ℕ) (rows : List (Spot × V)) → AreBelow num rows → AreBelow (num + 1) rows
  above num [] below = tt
  above num (r ∷ rs) below = (let low = below.0 in omega arith, above num rs below.1)

  pub all_below : (row : Spot × V) (num : ℕ) (rows : List (Spot × V)) → row.0.num ≡ num → AreBelow num rows → AreBelow (num + 1) (placed row rows)
  all_below row num [] is below = (omega arith, tt)
  all_below row num (r ∷ rs) is below = ⊎_elim
      (λ (first : is_lt (listing_cmp row.0 r.0) ≡ true). rw first (omega arith, above num (r ∷ rs) below))
      (λ (later : is_lt (listing_cmp row.0 r.0) ≡ false). rw later (let low = below.0 in omega arith, all_below row num rs is below.1))
      (cases_Bool (is_lt (listing_cmp row.0 r.0)))
