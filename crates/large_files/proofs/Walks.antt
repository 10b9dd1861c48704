-- Ends of the walks over the parts of a large file, and the parts from a number on.
use Rattle.std.proofs.Common.{◌≡◌, ◌⊎◌, inl, inr, ℕ, zero, suc, ◌+◌, ◌<◌, ◌≤◌, List, [], ◌∷◌, length, drop, get_or, filter, Bool, true, false, nat_lt, nat_le, None, refl, sym, ap, ◌∙◌, length-drop, arith}
use Rattle.std.proofs.Math.ListN.{drop_of_length-le}
use Rattle.std.proofs.lemmas.Bool.{cases_lt}
use Rattle.std.proofs.lemmas.Bool.Decides.{nat_tests}
use Rattle.std.specs.List.{AllPairs}
use Rattle.std.specs.List.Sorted.{IsPartitionedBy, IsPartitionPoint}
use Rattle.b2_base.specs.declared.extent.Extent.{Extent}
use Rattle.b2_types.specs.declared.version.PartOf.{PartOf}
use Rattle.b2_model.specs.Finish.{first_differing, first_small}
use Rattle.new_versions.specs.Decided.{extent_len}

abbrev Part : Type 0
Part = PartOf Extent

no_digests : (parts : List Part) → None ≡ first_differing parts []
no_digests [] = refl
no_digests (p ∷ ps) = refl

-- one of the two lists has ended
pub differing_none : (parts : List Part) (digests : List (List ℕ)) (at : ℕ) → (at < length parts) ⊎ (length parts ≤ at) → (at < length parts → length digests ≤ at)
    → None ≡ first_differing (drop at parts) (drop at digests)
differing_none parts digests at (inl within) past =
    no_digests (drop at parts) ∙ sym (ap (first_differing (drop at parts)) (drop_of_length-le digests (past within)))
differing_none parts digests at (inr out) past = sym (ap (λ ps. first_differing ps (drop at digests)) (drop_of_length-le parts out))

one_left : (least : ℕ) (left : List Part) → length left ≤ 1 → None ≡ first_small extent_len least left
one_left least [] few = refl
one_left least (p ∷ []) few = refl
one_left least (p ∷ q ∷ ps) few = absurd (omega (arith, few))

-- one part is left at most
pub small_none : (least : ℕ) (parts : List Part) (at : ℕ) → length parts ≤ at + 1 → None ≡ first_small extent_len least (drop at parts)
small_none least parts at past = one_left least (drop at parts) (omega (arith, length-drop at parts, past))

-- ---- parts from a number on

filter_all : {X : Type 0} (test : X → Bool) (xs : List X) → ((k : ℕ) (d : X) → k < length xs → test (get_or xs k d) ≡ true) → filter test xs ≡ xs
filter_all test [] each = refl
filter_all test (x ∷ xs) each = rw (each 0 x (omega arith)) (ap (λ ys. x ∷ ys) (filter_all test xs (λ k d within. each (suc k) d (omega (arith, within)))))

-- those before a place fail, and those from it on pass
pub filter_from : {X : Type 0} (test : X → Bool) (xs : List X) (at : ℕ) → ((k : ℕ) (d : X) → k < at → k < length xs → test (get_or xs k d) ≡ false)
    → ((k : ℕ) (d : X) → at ≤ k → k < length xs → test (get_or xs k d) ≡ true) → filter test xs ≡ drop at xs
filter_from test xs zero before after = filter_all test xs (λ k d within. after k d (omega arith) within)
filter_from test [] (suc at) before after = refl
filter_from test (x ∷ xs) (suc at) before after = rw (before 0 x (omega arith) (omega arith)) (filter_from test xs at
    (λ k d low within. before (suc k) d (omega (arith, low)) (omega (arith, within)))
    (λ k d high within. after (suc k) d (omega (arith, high)) (omega (arith, within))))

below_at : (parts : List Part) (start i j : ℕ) (d : Part) → AllPairs (λ p q. p.number < q.number) parts → i ≤ j → j < length parts → (i < j) ⊎ (j ≤ i)
    → nat_lt (get_or parts j d).number start ≡ true → nat_lt (get_or parts i d).number start ≡ true
below_at parts start i j d up low within (inl before) is = grind (arith, nat_tests, up i j d before within)
below_at parts start i j d up low within (inr after) is =
    let same : j ≡ i = omega (arith, low, after) in
    ap (λ k. nat_lt (get_or parts k d).number start) (sym same) ∙ is

-- what comes before a part with a number below the start has one too
pub parted : (parts : List Part) (start : ℕ) → AllPairs (λ p q. p.number < q.number) parts → IsPartitionedBy (λ p. nat_lt p.number start) parts
parted parts start up = λ i j d low within is. below_at parts start i j d up low within (cases_lt i j) is

below_start : (start n : ℕ) → nat_lt n start ≡ true → nat_le start n ≡ false
below_start start n is = grind (arith, nat_tests, is)

from_start : (start n : ℕ) → nat_lt n start ≡ false → nat_le start n ≡ true
from_start start n is = grind (arith, nat_tests, is)

pub rows_at : (parts : List Part) (start at : ℕ) → IsPartitionPoint (λ p. nat_lt p.number start ≡ true) (λ p. nat_lt p.number start ≡ false) parts at
    → filter (λ p. nat_le start p.number) parts ≡ drop at parts
rows_at parts start at point = filter_from (λ p. nat_le start p.number) parts at
    (λ k d low within. below_start start (get_or parts k d).number (point.0 k d (omega arith) low))
    (λ k d high within. from_start start (get_or parts k d).number (point.1 k d high within))
