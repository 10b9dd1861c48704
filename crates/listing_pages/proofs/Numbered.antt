-- Starts of large files, by number.
use Rattle.std.proofs.Common.{◌≡◌, ℕ, zero, suc, ◌+◌, ◌-◌, ◌<◌, ◌≤◌, ◌==◌, ◌&&◌, nat_lt, nat_le, Bool, true, false, not, cond, List, [], ◌∷◌, ◌++◌, Option, None, Some, filter, find, map, subst, sym, ap, ◌∙◌, ⊎_elim, refl, arith, nat_cmp, is_le, Less, Equal, append_assoc, append-nil}
use Rattle.std.specs.Option.{option_to_list}
use Rattle.std.specs.Prelude.{option_map}
use Rattle.std.specs.List.{AllByRecursion}
use Rattle.std.specs.Map.{keys_of}
use Rattle.std.specs.Ordering.{ordering_then}
use Rattle.std.specs.Cmp.{nat_cmp_total, tied_itself}
use Rattle.std.specs.Cmp.Lexicographic.{slice_cmp}
use Rattle.std.proofs.lemmas.Bool.{cases_Bool, eqb-true}
use Rattle.std.proofs.lemmas.Bool.Decides.{nat_tests}
use Rattle.std.proofs.lemmas.Map.Keys.{sorted_head, sorted_tail}
use Rattle.b2_base.specs.declared.numbers.TheConstants.{LAST_VERSION}
use Rattle.name_rules.specs.Folder.{begins_with}
use Rattle.version_index.specs.declared.spot.Spot.{Spot}
use Rattle.version_index.specs.Rows.{AreAscending, AreInRange, listing_cmp, row_from}
use Rattle.listing_pages.specs.declared.page.PageRow.{PageRow}
use Rattle.listing_pages.specs.Places.{after_version}
use Rattle.listing_pages.specs.Unfinished.{AreStarts, asked_starts, number_of, start_row, starts_in}
use Rattle.listing_pages.proofs.Names.{less_from}
use Rattle.listing_pages.proofs.Shown.{all_from, filter_same, filter_twice, none_found}
use Rattle.listing_pages.proofs.Sought.{lower_number}

-- ---- numbers that go down

abbrev pub GoDown : List (ℕ × List ℕ) → Type 0
GoDown [] = Unit {0}
GoDown (p ∷ ps) = AllByRecursion (λ q. nat_lt q.0 p.0 ≡ true) ps × GoDown ps

abbrev pub AreWithin : List (ℕ × List ℕ) → Type 0
AreWithin ps = AllByRecursion (λ p. p.0 ≤ LAST_VERSION) ps

-- the first below a number, and those below it
pub below_first : (ps : List (ℕ × List ℕ)) (below : ℕ) (p : ℕ × List ℕ) → GoDown ps → find (λ q. nat_lt q.0 below) ps ≡ Some p → filter (λ q. nat_lt q.0 below) ps ≡ p ∷ filter (λ q. nat_lt q.0 p.0) ps
below_first [] below p down found = cc
below_first (q ∷ qs) below p down found = ⊎_elim
    (λ (is : nat_lt q.0 below ≡ true).
    let same : q ≡ p = cc (rw is at found) in
    subst (λ x. filter (λ y. nat_lt y.0 below) (q ∷ qs) ≡ x ∷ filter (λ y. nat_lt y.0 x.0) (q ∷ qs)) same
    (rw (is, not_itself q.0) (ap (λ l. q ∷ l) (filter_same (λ y. nat_lt y.0 below) (λ y. nat_lt y.0 q.0) qs (all_from (λ y. nat_lt y.0 q.0 ≡ true) (λ y. nat_lt y.0 below ≡ nat_lt y.0 q.0) (λ y low. lower y.0 q.0 below low is) qs down.0)))))
    (λ (other : nat_lt q.0 below ≡ false). rw (other, not_lower q p other qs down.1 found) (below_first qs below p down.1 (rw other at found)))
    (cases_Bool (nat_lt q.0 below))
  where
    not_itself : (n : ℕ) → nat_lt n n ≡ false
    not_itself n = grind (arith, nat_tests)

    lower : (a b c : ℕ) → nat_lt a b ≡ true → nat_lt b c ≡ true → nat_lt a c ≡ nat_lt a b
    lower a b c first second = let third : nat_lt a c ≡ true = grind (arith, nat_tests) in third ∙ sym first

    later : (a b c : ℕ) → nat_lt a c ≡ false → nat_lt b c ≡ true → nat_lt a b ≡ false
    later a b c first second = grind (arith, nat_tests)

    passes : (xs : List (ℕ × List ℕ)) (x : ℕ × List ℕ) → find (λ y. nat_lt y.0 below) xs ≡ Some x → nat_lt x.0 below ≡ true
    passes [] x is = cc
    passes (y ∷ ys) x is = ⊎_elim
        (λ (yes : nat_lt y.0 below ≡ true). let same : y ≡ x = cc (rw yes at is) in subst (λ z. nat_lt z.0 below ≡ true) same yes)
        (λ (not_it : nat_lt y.0 below ≡ false). passes ys x (rw not_it at is))
        (cases_Bool (nat_lt y.0 below))

    not_lower : (a x : ℕ × List ℕ) → nat_lt a.0 below ≡ false → (xs : List (ℕ × List ℕ)) → GoDown xs → find (λ y. nat_lt y.0 below) (a ∷ xs) ≡ Some x → nat_lt a.0 x.0 ≡ false
    not_lower a x out xs go is = later a.0 x.0 below out (passes (a ∷ xs) x is)

-- ---- rows of an index of starts

up_to : (n m : ℕ) → not (nat_lt n m) ≡ nat_lt m (suc n)
up_to n m = grind (arith, nat_tests)

none_below : (m : ℕ) → nat_lt m 0 ≡ false
none_below m = grind (arith, nat_tests)

by_number : (below bucket : ℕ) (t : Spot) → t.bucket ≡ bucket → t.name ≡ [] → is_le (listing_cmp (after_version bucket [] below) t) ≡ nat_lt t.num below
by_number zero bucket t same none =
    let here : nat_cmp bucket t.bucket ≡ Equal = subst (λ n. nat_cmp bucket n ≡ Equal) (sym same) (tied_itself nat_cmp_total bucket) in
    ap (λ o. is_le (ordering_then o (ordering_then (slice_cmp nat_cmp (0 ∷ []) t.name) (nat_cmp t.num LAST_VERSION)))) here
    ∙ ap (λ n. is_le (ordering_then (slice_cmp nat_cmp (0 ∷ []) n) (nat_cmp t.num LAST_VERSION))) none ∙ sym (none_below t.num)
by_number (suc n) bucket t same none =
    let here : nat_cmp bucket t.bucket ≡ Equal = subst (λ m. nat_cmp bucket m ≡ Equal) (sym same) (tied_itself nat_cmp_total bucket) in
    ap (λ o. is_le (ordering_then o (ordering_then (slice_cmp nat_cmp [] t.name) (nat_cmp t.num n)))) here
    ∙ ap (λ m. is_le (ordering_then (slice_cmp nat_cmp [] m) (nat_cmp t.num n))) none ∙ lower_number t.num n ∙ up_to n t.num

bucket_is : (bucket below : ℕ) → (after_version bucket [] below).bucket ≡ bucket
bucket_is bucket zero = refl
bucket_is bucket (suc n) = refl

pub sought_below : (bucket below : ℕ) (rows : List (Spot × List ℕ)) → AreStarts rows → find (λ p. nat_lt p.0 below) (starts_in bucket rows) ≡ option_map (λ r. (r.0.num, r.1)) (row_from (after_version bucket [] below) rows)
sought_below bucket below [] all = refl
sought_below bucket below (x ∷ xs) all = ⊎_elim
    (λ (is : (x.0.bucket == bucket) ≡ true).
    let here : (x.0.bucket == (after_version bucket [] below).bucket) ≡ true = ap (λ b. x.0.bucket == b) (bucket_is bucket below) ∙ is in
    let number = by_number below bucket x.0 (eqb-true x.0.bucket bucket is) all.0 in
    ⊎_elim
    (λ (low : nat_lt x.0.num below ≡ true). rw (is, here, number ∙ low, low) refl)
    (λ (high : nat_lt x.0.num below ≡ false). rw (is, here, number ∙ high, high) (sought_below bucket below xs all.1))
    (cases_Bool (nat_lt x.0.num below)))
    (λ (other : (x.0.bucket == bucket) ≡ false).
    let apart : (x.0.bucket == (after_version bucket [] below).bucket) ≡ false = ap (λ b. x.0.bucket == b) (bucket_is bucket below) ∙ other in
    rw (other, apart) (sought_below bucket below xs all.1))
    (cases_Bool (x.0.bucket == bucket))

number_down : (s t : Spot) → s.bucket ≡ t.bucket → s.name ≡ [] → t.name ≡ [] → listing_cmp s t ≡ Less → nat_lt t.num s.num ≡ true
number_down s t same first second low =
    let here : nat_cmp s.bucket t.bucket ≡ Equal = subst (λ m. nat_cmp s.bucket m ≡ Equal) same (tied_itself nat_cmp_total s.bucket) in
    let plain : nat_cmp t.num s.num ≡ Less =
    sym (ap (λ o. ordering_then o (ordering_then (slice_cmp nat_cmp s.name t.name) (nat_cmp t.num s.num))) here
    ∙ ap (λ n. ordering_then (slice_cmp nat_cmp n t.name) (nat_cmp t.num s.num)) first
    ∙ ap (λ n. ordering_then (slice_cmp nat_cmp [] n) (nat_cmp t.num s.num)) second) ∙ low in
    lower_is t.num s.num (less_from t.num s.num plain) where
      lower_is : (a b : ℕ) → a < b → nat_lt a b ≡ true
      lower_is a b is = grind (arith, nat_tests)

later_down : (bucket : ℕ) (x : Spot × List ℕ) (rows : List (Spot × List ℕ)) → x.0.bucket ≡ bucket → x.0.name ≡ [] → AreStarts rows → AllByRecursion (λ t. listing_cmp x.0 t ≡ Less) (keys_of rows) → AllByRecursion (λ q. nat_lt q.0 x.0.num ≡ true) (starts_in bucket rows)
later_down bucket x [] same none all later = tt
later_down bucket x (y ∷ ys) same none all later = ⊎_elim
    (λ (is : (y.0.bucket == bucket) ≡ true). rw is (number_down x.0 y.0 (same ∙ sym (eqb-true y.0.bucket bucket is)) none all.0 later.0, later_down bucket x ys same none all.1 later.1))
    (λ (other : (y.0.bucket == bucket) ≡ false). rw other (later_down bucket x ys same none all.1 later.1))
    (cases_Bool (y.0.bucket == bucket))

pub starts_down : (bucket : ℕ) (rows : List (Spot × List ℕ)) → AreAscending rows → AreStarts rows → GoDown (starts_in bucket rows)
starts_down bucket [] up all = tt
starts_down bucket (x ∷ xs) up all = ⊎_elim
    (λ (is : (x.0.bucket == bucket) ≡ true). rw is (later_down bucket x xs (eqb-true x.0.bucket bucket is) all.0 all.1 (sorted_head listing_cmp x.0 (keys_of xs) up), starts_down bucket xs (sorted_tail listing_cmp x.0 (keys_of xs) up) all.1))
    (λ (other : (x.0.bucket == bucket) ≡ false). rw other (starts_down bucket xs (sorted_tail listing_cmp x.0 (keys_of xs) up) all.1))
    (cases_Bool (x.0.bucket == bucket))

pub starts_within : (bucket : ℕ) (rows : List (Spot × List ℕ)) → AreInRange rows → AreWithin (starts_in bucket rows)
starts_within bucket [] all = tt
starts_within bucket (x ∷ xs) all = ⊎_elim
    (λ (is : (x.0.bucket == bucket) ≡ true). rw is (all.0, starts_within bucket xs all.1))
    (λ (other : (x.0.bucket == bucket) ≡ false). rw other (starts_within bucket xs all.1))
    (cases_Bool (x.0.bucket == bucket))

-- ---- what stands and what is left

-- the row of a start, where its name begins with the prefix
abbrev pub row_for : List ℕ → ℕ × List ℕ → Option PageRow
row_for prefix p = cond (begins_with prefix p.1) (Some (start_row p)) None

abbrev pub starts_left : List ℕ → ℕ → List (ℕ × List ℕ) → List PageRow
starts_left prefix below ps = map start_row (filter (λ p. begins_with prefix p.1) (filter (λ p. nat_lt p.0 below) ps))

from_is : (start n : ℕ) → start ≤ LAST_VERSION → n ≤ LAST_VERSION → nat_le start (LAST_VERSION - n) ≡ nat_lt n (LAST_VERSION - start + 1)
from_is start n first second = ⊎_elim
    (λ (is : nat_le start (LAST_VERSION - n) ≡ true). let low : nat_lt n (LAST_VERSION - start + 1) ≡ true = grind (arith, nat_tests) in is ∙ sym low)
    (λ (other : nat_le start (LAST_VERSION - n) ≡ false). let high : nat_lt n (LAST_VERSION - start + 1) ≡ false = grind (arith, nat_tests) in other ∙ sym high)
    (cases_Bool (nat_le start (LAST_VERSION - n)))

pub starts_begin : (prefix : List ℕ) (start : ℕ) (ps : List (ℕ × List ℕ)) → start ≤ LAST_VERSION → AreWithin ps → starts_left prefix (LAST_VERSION - start + 1) ps ≡ map start_row (asked_starts prefix start ps)
starts_begin prefix start ps first all = ap (map start_row) (filter_twice (λ p. begins_with prefix p.1) (λ p. nat_lt p.0 (LAST_VERSION - start + 1)) ps ∙ filter_same (λ p. nat_lt p.0 (LAST_VERSION - start + 1) && begins_with prefix p.1) (λ p. begins_with prefix p.1 && nat_le start (number_of p)) ps (all_from (λ p. p.0 ≤ LAST_VERSION) (λ p. (nat_lt p.0 (LAST_VERSION - start + 1) && begins_with prefix p.1) ≡ (begins_with prefix p.1 && nat_le start (number_of p))) each ps all) ∙ sym (filter_twice (λ p. nat_le start (number_of p)) (λ p. begins_with prefix p.1) ps)) where
  swapped : (a b : Bool) → (a && b) ≡ (b && a)
  swapped true true = refl
  swapped true false = refl
  swapped false true = refl
  swapped false false = refl

  each : (p : ℕ × List ℕ) → p.0 ≤ LAST_VERSION → (nat_lt p.0 (LAST_VERSION - start + 1) && begins_with prefix p.1) ≡ (begins_with prefix p.1 && nat_le start (number_of p))
  each p is = swapped (nat_lt p.0 (LAST_VERSION - start + 1)) (begins_with prefix p.1) ∙ ap (λ b. begins_with prefix p.1 && b) (sym (from_is start p.0 first is))

pub none_more_starts : (prefix : List ℕ) (below : ℕ) (ps : List (ℕ × List ℕ)) (items all : List PageRow) → find (λ p. nat_lt p.0 below) ps ≡ None → items ++ starts_left prefix below ps ≡ all → items ≡ all
none_more_starts prefix below ps items all none split = sym (append-nil items) ∙ ap (λ l. items ++ map start_row (filter (λ p. begins_with prefix p.1) l)) (sym (none_found (λ p. nat_lt p.0 below) ps none)) ∙ split

pub one_more_start : (prefix : List ℕ) (below : ℕ) (ps : List (ℕ × List ℕ)) (items all more : List PageRow) (p : ℕ × List ℕ) (row : Option PageRow) → GoDown ps → find (λ q. nat_lt q.0 below) ps ≡ Some p → row ≡ row_for prefix p → more ≡ items ++ option_to_list row → items ++ starts_left prefix below ps ≡ all → more ++ starts_left prefix p.0 ps ≡ all
one_more_start prefix below ps items all more p row down found row_is more_is split =
    ap (λ l. l ++ starts_left prefix p.0 ps) (more_is ∙ ap (λ r. items ++ option_to_list r) row_is)
    ∙ append_assoc items (option_to_list (row_for prefix p)) (starts_left prefix p.0 ps)
    ∙ ap (λ l. items ++ l) (joined ∙ ap (λ l. map start_row (filter (λ q. begins_with prefix q.1) l)) (sym (below_first ps below p down found)))
    ∙ split where
      joined : option_to_list (row_for prefix p) ++ starts_left prefix p.0 ps ≡ map start_row (filter (λ q. begins_with prefix q.1) (p ∷ filter (λ q. nat_lt q.0 p.0) ps))
      joined = ⊎_elim
          (λ (is : begins_with prefix p.1 ≡ true). rw is refl)
          (λ (out : begins_with prefix p.1 ≡ false). rw out refl)
          (cases_Bool (begins_with prefix p.1))

pub found_below : (ps : List (ℕ × List ℕ)) (below : ℕ) (p : ℕ × List ℕ) → find (λ q. nat_lt q.0 below) ps ≡ Some p → p.0 < below
found_below [] below p found = cc
found_below (q ∷ qs) below p found = ⊎_elim
    (λ (is : nat_lt q.0 below ≡ true). let same : q ≡ p = cc (rw is at found) in subst (λ x. x.0 < below) same (lower q.0 below is))
    (λ (other : nat_lt q.0 below ≡ false). found_below qs below p (rw other at found))
    (cases_Bool (nat_lt q.0 below))
  where
    lower : (a b : ℕ) → nat_lt a b ≡ true → a < b
    lower a b is = grind (arith, nat_tests)
