-- The rows of a bucket among all rows.
use Rattle.std.proofs.Common.{◌≡◌, ℕ, ◌≤◌, ◌<◌, ◌==◌, nat_le, true, false, List, [], ◌∷◌, filter, map, ap, ⊎_elim, refl, arith, Less}
use Rattle.std.specs.List.{AllByRecursion}
use Rattle.std.specs.Map.{keys_of}
use Rattle.std.proofs.lemmas.Bool.{cases_Bool, eqb-false, ne_eqb}
use Rattle.std.proofs.lemmas.Bool.Decides.{nat_tests}
use Rattle.std.proofs.lemmas.Map.Keys.{sorted_head, sorted_tail}
use Rattle.version_index.specs.declared.spot.Spot.{Spot}
use Rattle.version_index.specs.Rows.{AreAscending, listing_cmp}
use Rattle.version_index.proofs.Orders.{later_bucket}
use Rattle.index_rows.specs.OwnRows.{of_bucket}
use Rattle.bucket_pass.specs.Walked.{V}

abbrev pub AreFrom : ℕ → List (Spot × V) → Type 0
AreFrom b rows = AllByRecursion (λ r. b ≤ r.0.bucket) rows

pub from_rows : (b : ℕ) (rows : List (Spot × V)) → AreFrom b (filter (λ r. nat_le b r.0.bucket) rows)
from_rows b [] = tt
from_rows b (r ∷ rs) = ⊎_elim
    (λ (is : nat_le b r.0.bucket ≡ true). rw is (grind (arith, nat_tests), from_rows b rs))
    (λ (is : nat_le b r.0.bucket ≡ false). rw is (from_rows b rs))
    (cases_Bool (nat_le b r.0.bucket))

pub same_rows : (b : ℕ) (rows : List (Spot × V)) → of_bucket b (filter (λ r. nat_le b r.0.bucket) rows) ≡ of_bucket b rows
same_rows b [] = refl
same_rows b (r ∷ rs) = ⊎_elim
    (λ (is : (r.0.bucket == b) ≡ true). let from : nat_le b r.0.bucket ≡ true = grind (arith, nat_tests) in rw (from, is) (ap (λ l. r.1 ∷ l) (same_rows b rs)))
    (λ (no : (r.0.bucket == b) ≡ false). ⊎_elim
    (λ (is : nat_le b r.0.bucket ≡ true). rw (is, no) (same_rows b rs))
    (λ (is : nat_le b r.0.bucket ≡ false). rw (is, no) (same_rows b rs))
    (cases_Bool (nat_le b r.0.bucket)))
    (cases_Bool (r.0.bucket == b))

none_of : (b : ℕ) (s : Spot) (rows : List (Spot × V)) → b < s.bucket → AllByRecursion (λ t. listing_cmp s t ≡ Less) (keys_of rows) → of_bucket b rows ≡ []
none_of b s [] above all = refl
none_of b s (r ∷ rs) above all =
    let after = later_bucket s r.0 all.0 in
    let no : (r.0.bucket == b) ≡ false = ne_eqb r.0.bucket b (λ e. omega arith) in
    rw no (none_of b s rs above all.1)

-- after a row of a later bucket there are none
pub none_left : (b : ℕ) (r : Spot × V) (rs : List (Spot × V)) → AreAscending (r ∷ rs) → b ≤ r.0.bucket → (r.0.bucket == b) ≡ false → of_bucket b (r ∷ rs) ≡ []
none_left b r rs up from other =
    let above : b < r.0.bucket = grind (arith, nat_tests) in
    rw other (none_of b r.0 rs above (sorted_head listing_cmp r.0 (keys_of rs) up))

pub one_more : (b : ℕ) (r : Spot × V) (rs : List (Spot × V)) → (r.0.bucket == b) ≡ true → of_bucket b (r ∷ rs) ≡ r.1 ∷ of_bucket b rs
one_more b r rs is = rw is refl

pub rest_up : (r : Spot × V) (rs : List (Spot × V)) → AreAscending (r ∷ rs) → AreAscending rs
rest_up r rs up = sorted_tail listing_cmp r.0 (keys_of rs) up
