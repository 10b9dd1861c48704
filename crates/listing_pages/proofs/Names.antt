-- Names in the order of their bytes, and what begins them.
use Rattle.std.proofs.Common.{◌≡◌, ℕ, zero, suc, ◌+◌, ◌-◌, ◌<◌, ◌≤◌, ◌⊎◌, ◌==◌, ◌&&◌, nat_lt, true, false, not, List, [], ◌∷◌, ◌++◌, length, get_or, set, sym, ap, ◌∙◌, inl, inr, refl, arith, nat_cmp, is_lt, Less, Equal, Greater}
use Rattle.std.specs.declared.cmp.Ordering.{Ordering}
use Rattle.std.specs.Ordering.{is_gt, match_ordering, ordering_reverse}
use Rattle.std.specs.Cmp.Lexicographic.{slice_cmp, nat_list_cmp_total}
use Rattle.std.proofs.lemmas.Bool.{and_from, and_parts, and_right, cases_lt, eqb-true, false≢true}
use Rattle.std.proofs.lemmas.Bool.Decides.{nat_tests}
use Rattle.std.proofs.lemmas.Cmp.{ranked}
use Rattle.b2_base.specs.declared.numbers.TheConstants.{LAST_VERSION}
use Rattle.b2_types.specs.declared.version.VersionOf.{VersionOf}
use Rattle.b2_model.specs.Rows.{is_before}
use Rattle.name_rules.specs.Folder.{begins_with}
use Rattle.listing_pages.specs.Orders.{is_past}
use Rattle.listing_pages.specs.Places.{after_folder, after_name, after_version, at_or_after, first_of_name, raised}

abbrev pub cmp : List ℕ → List ℕ → Ordering
cmp a b = slice_cmp nat_cmp a b

-- ---- two numbers, as their comparison says

pub less_from : (m n : ℕ) → nat_cmp m n ≡ Less → m < n
less_from m n is = rw is at (ranked m n (nat_cmp m n) refl)

pub same_from : (m n : ℕ) → nat_cmp m n ≡ Equal → m ≡ n
same_from m n is = rw is at (ranked m n (nat_cmp m n) refl)

pub more_from : (m n : ℕ) → nat_cmp m n ≡ Greater → n < m
more_from m n is = rw is at (ranked m n (nat_cmp m n) refl)

by_less : (m n : ℕ) (o : Ordering) → nat_cmp m n ≡ o → m < n → nat_cmp m n ≡ Less
by_less m n Less is low = is
by_less m n Equal is low = absurd (let e = same_from m n is in omega arith)
by_less m n Greater is low = absurd (let e = more_from m n is in omega arith)

less_is : (m n : ℕ) → m < n → nat_cmp m n ≡ Less
less_is m n low = by_less m n (nat_cmp m n) refl low

by_same : (m n : ℕ) (o : Ordering) → nat_cmp m n ≡ o → m ≡ n → nat_cmp m n ≡ Equal
by_same m n Less is e = absurd (let l = less_from m n is in omega arith)
by_same m n Equal is e = is
by_same m n Greater is e = absurd (let l = more_from m n is in omega arith)

same_is : (m n : ℕ) → m ≡ n → nat_cmp m n ≡ Equal
same_is m n e = by_same m n (nat_cmp m n) refl e

by_more : (m n : ℕ) (o : Ordering) → nat_cmp m n ≡ o → n < m → nat_cmp m n ≡ Greater
by_more m n Less is high = absurd (let l = less_from m n is in omega arith)
by_more m n Equal is high = absurd (let l = same_from m n is in omega arith)
by_more m n Greater is high = is

more_is : (m n : ℕ) → n < m → nat_cmp m n ≡ Greater
more_is m n high = by_more m n (nat_cmp m n) refl high

other_number : (m n : ℕ) → m < n → (n == m) ≡ false
other_number m n low = grind (arith, nat_tests)

-- ---- what begins a name

begins_cons : (p x : ℕ) (ps xs : List ℕ) → begins_with (p ∷ ps) (x ∷ xs) ≡ true → (x ≡ p) × (begins_with ps xs ≡ true)
begins_cons p x ps xs is = let parts = and_parts (x == p) (begins_with ps xs) is in (eqb-true x p parts.0, parts.1)

pub begins_from : (p x : ℕ) (ps xs : List ℕ) → x ≡ p → begins_with ps xs ≡ true → begins_with (p ∷ ps) (x ∷ xs) ≡ true
begins_from p x ps xs same rest = and_from (x == p) (begins_with ps xs) (grind (arith, nat_tests)) rest

-- it stands before the name or is the name
pub begins_upto : (f t : List ℕ) → begins_with f t ≡ true → is_gt (cmp f t) ≡ false
begins_upto [] [] is = refl
begins_upto [] (x ∷ xs) is = refl
begins_upto (p ∷ ps) [] is = absurd (false≢true is)
begins_upto (p ∷ ps) (x ∷ xs) is = let parts = begins_cons p x ps xs is in rw (same_is p x (sym parts.0)) (begins_upto ps xs parts.1)

-- the first bytes of two names in order
heads : (o : Ordering) (x y : ℕ) (xs ys : List ℕ) → nat_cmp x y ≡ o → is_gt (cmp (x ∷ xs) (y ∷ ys)) ≡ false → (x < y) ⊎ ((x ≡ y) × (is_gt (cmp xs ys) ≡ false))
heads Less x y xs ys is upto = inl (less_from x y is)
heads Equal x y xs ys is upto = inr (same_from x y is, rw is at upto)
heads Greater x y xs ys is upto = absurd (let no : true ≡ false = rw is at upto in cc)

-- between two names that it begins it begins each
pub begins_between : (f a b c : List ℕ) → begins_with f a ≡ true → begins_with f c ≡ true → is_gt (cmp a b) ≡ false → is_gt (cmp b c) ≡ false → begins_with f b ≡ true
begins_between [] a b c first last low high = refl
begins_between (p ∷ ps) [] b c first last low high = absurd (false≢true first)
begins_between (p ∷ ps) (x ∷ xs) [] c first last low high = absurd (false≢true (sym low))
begins_between (p ∷ ps) (x ∷ xs) (y ∷ ys) [] first last low high = absurd (false≢true last)
begins_between (p ∷ ps) (x ∷ xs) (y ∷ ys) (z ∷ zs) first last low high =
    let f = begins_cons p x ps xs first in
    let l = begins_cons p z ps zs last in
    elim (heads (nat_cmp x y) x y xs ys refl low) [
      | inl lower ↦ elim (heads (nat_cmp y z) y z ys zs refl high) [ inl more ↦ absurd (omega (arith, f.0, l.0)) | inr e ↦ absurd (omega (arith, f.0, l.0, e.0)) ]
      | inr d ↦ elim (heads (nat_cmp y z) y z ys zs refl high) [
        | inl more ↦ absurd (omega (arith, f.0, l.0, d.0))
        | inr e ↦ begins_from p y ps ys (sym d.0 ∙ f.0) (begins_between ps xs ys zs f.1 l.1 d.1 e.1)
      ]
    ]

-- ---- the place after a folder

abbrev up : List ℕ → List ℕ
up [] = []
up (b ∷ []) = (b + 1) ∷ []
up (b ∷ c ∷ cs) = b ∷ up (c ∷ cs)

set_last : (f : List ℕ) (n : ℕ) → suc n ≡ length f → set f n (get_or f n 0 + 1) ≡ up f
set_last [] n is = absurd (omega (arith, is))
set_last (b ∷ []) zero is = refl
set_last (b ∷ []) (suc n) is = absurd (omega (arith, is))
set_last (b ∷ c ∷ cs) zero is = absurd (omega (arith, is))
set_last (b ∷ c ∷ cs) (suc n) is = ap (λ l. b ∷ l) (set_last (c ∷ cs) n (omega (arith, is)))

raised_is : (f : List ℕ) → 0 < length f → raised f ≡ up f
raised_is f some = set_last f (length f - 1) (omega arith)

none_above : (xs : List ℕ) → is_gt (cmp [] xs) ≡ false
none_above [] = refl
none_above (x ∷ xs) = refl

past_one : (o : Ordering) (b x : ℕ) (xs : List ℕ) → nat_cmp b x ≡ o → not (is_gt (cmp ((b + 1) ∷ []) (x ∷ xs))) ≡ is_past (b ∷ []) (x ∷ xs)
past_one Less b x xs is = elim (cases_lt (b + 1) x) [
  | inl low ↦ rw (is, other_number b x (less_from b x is), less_is (b + 1) x low) refl
  | inr high ↦ rw (is, other_number b x (less_from b x is), same_is (b + 1) x (let l = less_from b x is in omega arith)) (ap not (none_above xs))
]
past_one Equal b x xs is =
    let same = same_from b x is in
    let here : (x == b) ≡ true = grind (arith, nat_tests) in
    rw (is, here, more_is (b + 1) x (omega (arith, same))) (sym (and_right (is_lt (cmp [] xs)) false refl))
past_one Greater b x xs is = rw (is, more_is (b + 1) x (let l = more_from b x is in omega arith)) refl

past_more : (o : Ordering) (b c x : ℕ) (cs xs : List ℕ) → nat_cmp b x ≡ o → not (is_gt (cmp (up (c ∷ cs)) xs)) ≡ is_past (c ∷ cs) xs → not (is_gt (cmp (b ∷ up (c ∷ cs)) (x ∷ xs))) ≡ is_past (b ∷ c ∷ cs) (x ∷ xs)
past_more Less b c x cs xs is rest = rw (is, other_number b x (less_from b x is)) refl
past_more Equal b c x cs xs is rest =
    let same = same_from b x is in
    let here : (x == b) ≡ true = grind (arith, nat_tests) in
    rw (is, here) rest
past_more Greater b c x cs xs is rest = rw is refl

up_past : (f t : List ℕ) → 0 < length f → not (is_gt (cmp (up f) t)) ≡ is_past f t
up_past [] t some = absurd (omega arith)
up_past (b ∷ []) [] some = refl
up_past (b ∷ []) (x ∷ xs) some = past_one (nat_cmp b x) b x xs refl
up_past (b ∷ c ∷ cs) [] some = refl
up_past (b ∷ c ∷ cs) (x ∷ xs) some = past_more (nat_cmp b x) b c x cs xs refl (up_past (c ∷ cs) xs (omega arith))

-- a name that begins with the folder stands before that place
pub raised_less : (f t : List ℕ) → 0 < length f → begins_with f t ≡ true → cmp t (raised f) ≡ Less
raised_less f t some begins = nat_list_cmp_total.antisymm t (raised f) ∙ ap ordering_reverse (above (cmp (raised f) t) (ap (λ g. not (is_gt (cmp g t))) (raised_is f some) ∙ up_past f t some ∙ ap (λ b. is_lt (cmp f t) && not b) begins ∙ and_right (is_lt (cmp f t)) false refl)) where
  above : (o : Ordering) → not (is_gt o) ≡ false → o ≡ Greater
  above Less is = absurd (false≢true (sym is))
  above Equal is = absurd (false≢true (sym is))
  above Greater is = refl

-- ---- the place after a name

with_zero : (o : Ordering) (b x : ℕ) (bs xs : List ℕ) → nat_cmp b x ≡ o → not (is_gt (cmp (bs ++ 0 ∷ []) xs)) ≡ is_lt (cmp bs xs) → not (is_gt (cmp ((b ∷ bs) ++ 0 ∷ []) (x ∷ xs))) ≡ is_lt (cmp (b ∷ bs) (x ∷ xs))
with_zero Less b x bs xs is rest = rw is refl
with_zero Equal b x bs xs is rest = rw is rest
with_zero Greater b x bs xs is rest = rw is refl

zero_first : (x : ℕ) (xs : List ℕ) → not (is_gt (cmp (0 ∷ []) (x ∷ xs))) ≡ true
zero_first zero xs = ap not (none_above xs)
zero_first (suc x) xs = rw (less_is 0 (suc x) (omega arith)) refl

pub zero_after : (n t : List ℕ) → not (is_gt (cmp (n ++ 0 ∷ []) t)) ≡ is_lt (cmp n t)
zero_after [] [] = refl
zero_after [] (x ∷ xs) = zero_first x xs
zero_after (b ∷ bs) [] = refl
zero_after (b ∷ bs) (x ∷ xs) = with_zero (nat_cmp b x) b x bs xs refl (zero_after bs xs)

-- ---- places and versions

pub turned : (o : Ordering) → match_ordering (ordering_reverse o) false true true ≡ not (is_gt o)
turned Less = refl
turned Equal = refl
turned Greater = refl

within : (n m : ℕ) → m ≤ n → not (nat_lt n m) ≡ true
within n m low = grind (arith, nat_tests)

at_last : (o : Ordering) (m : ℕ) → is_lt o ≡ match_ordering o true (nat_lt m 0) false
at_last Less m = refl
at_last Equal m = let no : nat_lt m 0 ≡ false = grind (arith, nat_tests) in sym no
at_last Greater m = refl

next_down : (o : Ordering) (k m : ℕ) → match_ordering (ordering_reverse o) false (not (nat_lt k m)) true ≡ match_ordering o true (nat_lt m (suc k)) false
next_down Less k m = refl
next_down Equal k m = grind (arith, nat_tests)
next_down Greater k m = refl

module _ {C : Type 0} where
  pub at_first : (bucket : ℕ) (name : List ℕ) (v : VersionOf C) → v.num ≤ LAST_VERSION → at_or_after (first_of_name bucket name) v ≡ not (is_gt (cmp name v.name))
  at_first bucket name v low =
      ap (λ b. match_ordering (cmp v.name name) false b true) (within LAST_VERSION v.num low)
      ∙ ap (λ o. match_ordering o false true true) (nat_list_cmp_total.antisymm v.name name)
      ∙ turned (cmp name v.name)

  pub at_folder : (bucket : ℕ) (folder : List ℕ) (v : VersionOf C) → v.num ≤ LAST_VERSION → 0 < length folder → at_or_after (after_folder bucket folder) v ≡ is_past folder v.name
  at_folder bucket folder v low some = at_first bucket (raised folder) v low ∙ ap (λ f. not (is_gt (cmp f v.name))) (raised_is folder some) ∙ up_past folder v.name some

  pub at_name : (bucket : ℕ) (name : List ℕ) (v : VersionOf C) → v.num ≤ LAST_VERSION → at_or_after (after_name bucket name) v ≡ is_lt (cmp name v.name)
  at_name bucket name v low = at_first bucket (name ++ 0 ∷ []) v low ∙ zero_after name v.name

  by_number : (n bucket : ℕ) (v w : VersionOf C) → v.num ≡ n → w.num ≤ LAST_VERSION → at_or_after (after_version bucket v.name n) w ≡ match_ordering (cmp v.name w.name) true (nat_lt w.num n) false
  by_number zero bucket v w is low = at_name bucket v.name w low ∙ at_last (cmp v.name w.name) w.num
  by_number (suc k) bucket v w is low = ap (λ o. match_ordering o false (not (nat_lt k w.num)) true) (nat_list_cmp_total.antisymm w.name v.name) ∙ next_down (cmp v.name w.name) k w.num

  pub at_version : (bucket : ℕ) (v w : VersionOf C) → w.num ≤ LAST_VERSION → at_or_after (after_version bucket v.name v.num) w ≡ is_before v w
  at_version bucket v w low = by_number v.num bucket v w refl low
