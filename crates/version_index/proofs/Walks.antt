-- What a walk knows of the rows behind the one that it found.
use Rattle.std.proofs.Common.{◌≡◌, None, Some, Bool, true, false, List, [], ◌∷◌, subst, sym, ap, ◌∙◌, ⊎_elim, refl, is_le, is_lt, Less, Equal, Greater}
use Rattle.std.specs.Prelude.{◌==◌}
use Rattle.std.specs.List.{AllByRecursion, filter}
use Rattle.std.specs.Map.{keys_of}
use Rattle.std.specs.declared.cmp.Ordering.{Ordering}
use Rattle.std.specs.Cmp.{alike_right, tied_itself}
use Rattle.std.proofs.lemmas.Bool.{cases_Bool, false≢true}
use Rattle.std.proofs.lemmas.Map.Keys.{sorted_head, sorted_tail}
use Rattle.version_index.specs.declared.spot.Spot.{Spot}
use Rattle.version_index.specs.Order.{listing_total}
use Rattle.version_index.specs.Rows.{AreAscending, first_from, listing_cmp, row_from, rows_after, rows_from}
use Rattle.version_index.proofs.Seeks.{from_here, none_from, past_bucket}
use Rattle.version_index.proofs.Seeks.{first_from as in_bucket}

not_less : (o : Ordering) → (o ≡ Less → ⊥) → is_lt o ≡ false
not_less Less never = absurd (never refl)
not_less Equal never = refl
not_less Greater never = refl

less_is : (o : Ordering) → is_lt o ≡ true → o ≡ Less
less_is Less is = refl
less_is Equal is = absurd (false≢true is)
less_is Greater is = absurd (false≢true is)

-- what holds from a spot on
abbrev GoesOn : (Spot → Bool) → Type 0
GoesOn p = (x y : Spot) → p x ≡ true → listing_cmp x y ≡ Less → p y ≡ true

from_on : (s : Spot) → GoesOn (λ x. is_le (listing_cmp s x))
from_on s x y is later = by (listing_cmp s x) refl where
  by : (o : Ordering) → listing_cmp s x ≡ o → is_le (listing_cmp s y) ≡ true
  by Less e = ap is_le (listing_total.trans s x y e later)
  by Equal e = ap is_le (listing_total.congr s x y e ∙ later)
  by Greater e = absurd (false≢true (ap is_le (sym e) ∙ is))

after_on : (t : Spot) → GoesOn (λ x. is_lt (listing_cmp t x))
after_on t x y is later = ap is_lt (listing_total.trans t x y (less_is (listing_cmp t x) is) later)

-- what is at a later spot or after it is after the earlier one
later_from : (t s x : Spot) → listing_cmp t s ≡ Less → is_le (listing_cmp s x) ≡ true → is_lt (listing_cmp t x) ≡ true
later_from t s x before is = by (listing_cmp s x) refl where
  by : (o : Ordering) → listing_cmp s x ≡ o → is_lt (listing_cmp t x) ≡ true
  by Less e = ap is_lt (listing_total.trans t s x before e)
  by Equal e = ap is_lt (sym (alike_right listing_total s x t e) ∙ before)
  by Greater e = absurd (false≢true (ap is_le (sym e) ∙ is))

module _ {V : Type 0} where
  same_head : {x r : Spot × V} {xs rest : List (Spot × V)} → x ∷ xs ≡ r ∷ rest → x ≡ r
  same_head is = cc

  same_tail : {x r : Spot × V} {xs rest : List (Spot × V)} → x ∷ xs ≡ r ∷ rest → xs ≡ rest
  same_tail is = cc

  same_one : {x r : Spot × V} → Some x ≡ Some r → x ≡ r
  same_one is = cc

  head_passes : (p : Spot → Bool) (rows : List (Spot × V)) (r : Spot × V) (rest : List (Spot × V)) → filter (λ x. p x.0) rows ≡ r ∷ rest → p r.0 ≡ true
  head_passes p [] r rest is = cc
  head_passes p (x ∷ xs) r rest is = ⊎_elim
      (λ (yes : p x.0 ≡ true). subst (λ y. p y.0 ≡ true) (same_head (rw yes at is)) yes)
      (λ (no : p x.0 ≡ false). head_passes p xs r rest (rw no at is))
      (cases_Bool (p x.0))

  -- rows that each pass one test pass the other
  kept_later : (p : Spot → Bool) (x : Spot) → GoesOn p → p x ≡ true → (rows : List (Spot × V)) → AllByRecursion (λ t. listing_cmp x t ≡ Less) (keys_of rows) → filter (λ r. p r.0) rows ≡ rows_after x rows
  kept_later p x on is [] later = refl
  kept_later p x on is (r ∷ rs) later = rw (on x r.0 is later.0, later.0) (ap (λ l. r ∷ l) (kept_later p x on is rs later.1))

  -- what follows the first row where a test holds are the rows after it
  pub behind : (p : Spot → Bool) → GoesOn p → (rows : List (Spot × V)) (r : Spot × V) (rest : List (Spot × V)) → AreAscending rows → filter (λ x. p x.0) rows ≡ r ∷ rest → rest ≡ rows_after r.0 rows
  behind p on [] r rest up is = cc
  behind p on (x ∷ xs) r rest up is = ⊎_elim
      (λ (yes : p x.0 ≡ true).
      let whole = rw yes at is in
      let none : is_lt (listing_cmp x.0 x.0) ≡ false = ap is_lt (tied_itself listing_total x.0) in
      let here : rest ≡ rows_after x.0 (x ∷ xs) = rw none (sym (same_tail whole) ∙ kept_later p x.0 on yes xs (sorted_head listing_cmp x.0 (keys_of xs) up)) in
      subst (λ y. rest ≡ rows_after y.0 (x ∷ xs)) (same_head whole) here)
      (λ (no : p x.0 ≡ false).
      let found = rw no at is in
      let passes = head_passes p xs r rest found in
      let before : is_lt (listing_cmp r.0 x.0) ≡ false = not_less (listing_cmp r.0 x.0) (λ e. false≢true (sym no ∙ on r.0 x.0 passes e)) in
      rw before (behind p on xs r rest (sorted_tail listing_cmp x.0 (keys_of xs) up) found))
      (cases_Bool (p x.0))

  pub behind_from : (s : Spot) (rows : List (Spot × V)) (r : Spot × V) (rest : List (Spot × V)) → AreAscending rows → rows_from s rows ≡ r ∷ rest → rest ≡ rows_after r.0 rows
  behind_from s rows r rest up is = behind (λ x. is_le (listing_cmp s x)) (from_on s) rows r rest up is

  pub behind_after : (t : Spot) (rows : List (Spot × V)) (r : Spot × V) (rest : List (Spot × V)) → AreAscending rows → rows_after t rows ≡ r ∷ rest → rest ≡ rows_after r.0 rows
  behind_after t rows r rest up is = behind (λ x. is_lt (listing_cmp t x)) (after_on t) rows r rest up is

  -- the next row is the first from a spot on that stands between
  pub near_first : (t s : Spot) (rows : List (Spot × V)) (r : Spot × V) (rest : List (Spot × V)) → rows_after t rows ≡ r ∷ rest → is_lt (listing_cmp t s) ≡ true → is_le (listing_cmp s r.0) ≡ true → first_from s rows ≡ Some r
  near_first t s [] r rest is before at_it = cc
  near_first t s (x ∷ xs) r rest is before at_it = ⊎_elim
      (λ (yes : is_lt (listing_cmp t x.0) ≡ true).
      let same : x ≡ r = same_head (rw yes at is) in
      let here : is_le (listing_cmp s x.0) ≡ true = subst (λ y. is_le (listing_cmp s y.0) ≡ true) (sym same) at_it in
      rw here (ap Some same))
      (λ (no : is_lt (listing_cmp t x.0) ≡ false).
      let low : is_le (listing_cmp s x.0) ≡ false = ⊎_elim
      (λ (at_x : is_le (listing_cmp s x.0) ≡ true). absurd (false≢true (sym no ∙ later_from t s x.0 (less_is (listing_cmp t s) before) at_x)))
      (λ (out : is_le (listing_cmp s x.0) ≡ false). out)
      (cases_Bool (is_le (listing_cmp s x.0))) in
      rw low (near_first t s xs r rest (rw no at is) before at_it))
      (cases_Bool (is_lt (listing_cmp t x.0)))

  pub found_first : (s : Spot) (rows : List (Spot × V)) (r : Spot × V) (rest : List (Spot × V)) → rows_from s rows ≡ r ∷ rest → first_from s rows ≡ Some r
  found_first s [] r rest is = cc
  found_first s (x ∷ xs) r rest is = ⊎_elim
      (λ (yes : is_le (listing_cmp s x.0) ≡ true). rw yes (ap Some (same_head (rw yes at is))))
      (λ (no : is_le (listing_cmp s x.0) ≡ false). rw no (found_first s xs r rest (rw no at is)))
      (cases_Bool (is_le (listing_cmp s x.0)))

  pub found_none : (s : Spot) (rows : List (Spot × V)) → rows_from s rows ≡ [] → first_from s rows ≡ None
  found_none s [] is = refl
  found_none s (x ∷ xs) is = ⊎_elim
      (λ (yes : is_le (listing_cmp s x.0) ≡ true). let some : x ∷ rows_from s xs ≡ [] = rw yes at is in cc)
      (λ (no : is_le (listing_cmp s x.0) ≡ false). rw no (found_none s xs (rw no at is)))
      (cases_Bool (is_le (listing_cmp s x.0)))

  -- ---- of a bucket

  none_here : (s : Spot) (rows : List (Spot × V)) → first_from s rows ≡ None → from_here s rows ≡ []
  none_here s [] is = refl
  none_here s (x ∷ xs) is = ⊎_elim
      (λ (yes : is_le (listing_cmp s x.0) ≡ true). let some : Some x ≡ None = rw yes at is in cc)
      (λ (no : is_le (listing_cmp s x.0) ≡ false). rw no (none_here s xs (rw no at is)))
      (cases_Bool (is_le (listing_cmp s x.0)))

  split : (s : Spot) (rows : List (Spot × V)) (r : Spot × V) → first_from s rows ≡ Some r → (rest : List (Spot × V)) × (from_here s rows ≡ r ∷ rest)
  split s [] r is = cc
  split s (x ∷ xs) r is = ⊎_elim
      (λ (yes : is_le (listing_cmp s x.0) ≡ true). (from_here s xs, rw yes (ap (λ y. y ∷ from_here s xs) (same_one (rw yes at is)))))
      (λ (no : is_le (listing_cmp s x.0) ≡ false). let more = split s xs r (rw no at is) in (more.0, rw no more.1))
      (cases_Bool (is_le (listing_cmp s x.0)))

  pub no_row : (s : Spot) (rows : List (Spot × V)) → first_from s rows ≡ None → row_from s rows ≡ None
  no_row s rows is = none_from s rows (none_here s rows is)

  pub row_here : (s : Spot) (rows : List (Spot × V)) (r : Spot × V) → first_from s rows ≡ Some r → (r.0.bucket == s.bucket) ≡ true → row_from s rows ≡ Some r
  row_here s rows r is bucket = let more = split s rows r is in in_bucket s rows r more.0 more.1 bucket

  pub row_past : (s : Spot) (rows : List (Spot × V)) (r : Spot × V) → AreAscending rows → first_from s rows ≡ Some r → (r.0.bucket == s.bucket) ≡ false → row_from s rows ≡ None
  row_past s rows r up is bucket = let more = split s rows r is in past_bucket s rows r more.0 up more.1 bucket

module _ {V : Type 0} where
  pub all_kept : (rows : List (Spot × V)) → filter (λ r. true) rows ≡ rows
  all_kept [] = refl
  all_kept (r ∷ rs) = ap (λ l. r ∷ l) (all_kept rs)
