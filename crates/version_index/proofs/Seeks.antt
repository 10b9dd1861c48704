-- The first row of a range, and of a name.
use Rattle.std.proofs.Common.{◌≡◌, ℕ, ◌≤◌, ◌&&◌, None, Some, Bool, true, false, not, nat_le, List, [], ◌∷◌, subst, sym, ap, ◌∙◌, ⊎_elim, refl, arith, is_le, nat_cmp, Less, Equal, Greater}
use Rattle.std.specs.Prelude.{◌==◌, bytes_eq}
use Rattle.std.specs.List.{AllByRecursion, filter, find}
use Rattle.std.specs.Map.{keys_of}
use Rattle.std.specs.declared.cmp.Ordering.{Ordering}
use Rattle.std.specs.Ordering.{ordering_then}
use Rattle.std.specs.Cmp.Lexicographic.{slice_cmp}
use Rattle.std.proofs.lemmas.Bool.{and_left, and_parts, and_right, cases_Bool, ne_eqb, false≢true}
use Rattle.std.proofs.lemmas.Bool.Decides.{nat_tests}
use Rattle.std.proofs.lemmas.Map.Keys.{sorted_head, sorted_tail}
use Rattle.b2_base.specs.declared.numbers.TheConstants.{LAST_VERSION}
use Rattle.version_index.specs.declared.spot.Spot.{Spot}
use Rattle.version_index.specs.Rows.{AreAscending, AreInRange, first_named, first_spot, is_from, is_named, listing_cmp, row_from}
use Rattle.version_index.proofs.Orders.{greater_from, later_bucket, less_from, named_from, other_bucket, past_name, same_from, up_to}

pub with_true : (b : Bool) → (b && true) ≡ b
with_true false = refl
with_true true = refl

not_from : (s t : Spot) → is_le (listing_cmp s t) ≡ false → is_from s t ≡ false
not_from s t low = and_right (t.bucket == s.bucket) (is_le (listing_cmp s t)) low

-- what is not at the name's last number or after it is not of the name
not_named : (s t : Spot) → s.num ≡ LAST_VERSION → t.num ≤ LAST_VERSION → is_from s t ≡ false → is_named s t ≡ false
not_named s t last within before = ⊎_elim (λ (named : is_named s t ≡ true). absurd (false≢true (sym before ∙ named_from s t last within named))) (λ no. no) (cases_Bool (is_named s t))

module _ {V : Type 0} (s : Spot) where
  -- the rows at s or after it, in any bucket
  abbrev pub from_here : List (Spot × V) → List (Spot × V)
  from_here rows = filter (λ r. is_le (listing_cmp s r.0) && not false) rows

  same_row : {x r : Spot × V} {xs rest : List (Spot × V)} → x ∷ xs ≡ r ∷ rest → x ≡ r
  same_row is = cc

  same_one : {x r : Spot × V} → Some x ≡ Some r → x ≡ r
  same_one is = cc

  none_found : (p : Spot × V → Bool) (rows : List (Spot × V)) → AllByRecursion (λ r. p r ≡ false) rows → find p rows ≡ None
  none_found p [] all = refl
  none_found p (r ∷ rs) all = rw all.0 (none_found p rs all.1)

  -- what is true of each key's spot is true of each row
  by_keys : (P : Spot → Type 0) (Q : Spot × V → Type 0) → ((r : Spot × V) → P r.0 → Q r) → (rows : List (Spot × V)) → AllByRecursion P (keys_of rows) → AllByRecursion Q rows
  by_keys P Q gives [] all = tt
  by_keys P Q gives (r ∷ rs) all = (gives r all.0, by_keys P Q gives rs all.1)

  pub none_from : (rows : List (Spot × V)) → from_here rows ≡ [] → row_from s rows ≡ None
  none_from [] none = refl
  none_from (r ∷ rs) none = ⊎_elim
      (λ (here : is_le (listing_cmp s r.0) ≡ true). let some : r ∷ from_here rs ≡ [] = rw here at none in cc)
      (λ (low : is_le (listing_cmp s r.0) ≡ false). rw (not_from s r.0 low) (none_from rs (rw low at none)))
      (cases_Bool (is_le (listing_cmp s r.0)))

  pub first_from : (rows : List (Spot × V)) (row : Spot × V) (rest : List (Spot × V)) → from_here rows ≡ row ∷ rest → (row.0.bucket == s.bucket) ≡ true → row_from s rows ≡ Some row
  first_from [] row rest is bucket = cc
  first_from (r ∷ rs) row rest is bucket = ⊎_elim
      (λ (here : is_le (listing_cmp s r.0) ≡ true).
      let same : r ≡ row = same_row (rw here at is) in
      let one : (r.0.bucket == s.bucket) ≡ true = subst (λ x. (x.0.bucket == s.bucket) ≡ true) (sym same) bucket in
      rw (one, here) (ap Some same))
      (λ (low : is_le (listing_cmp s r.0) ≡ false). rw (not_from s r.0 low) (first_from rs row rest (rw low at is) bucket))
      (cases_Bool (is_le (listing_cmp s r.0)))

  -- where the first row at s or after it is of another bucket, the bucket has none
  pub past_bucket : (rows : List (Spot × V)) (row : Spot × V) (rest : List (Spot × V)) → AreAscending rows → from_here rows ≡ row ∷ rest → (row.0.bucket == s.bucket) ≡ false → row_from s rows ≡ None
  past_bucket [] row rest up is bucket = refl
  past_bucket (r ∷ rs) row rest up is bucket = ⊎_elim
      (λ (here : is_le (listing_cmp s r.0) ≡ true).
      let same : r ≡ row = same_row (rw here at is) in
      let other : (r.0.bucket == s.bucket) ≡ false = subst (λ x. (x.0.bucket == s.bucket) ≡ false) (sym same) bucket in
      let past = other_bucket s r.0 here other in
      rw other (none_found (λ x. is_from s x.0) rs (by_keys (λ t. listing_cmp r.0 t ≡ Less) (λ x. is_from s x.0 ≡ false) (λ x later. let after = later_bucket r.0 x.0 later in and_left (x.0.bucket == s.bucket) (is_le (listing_cmp s x.0)) (ne_eqb x.0.bucket s.bucket (λ e. omega arith))) rs (sorted_head listing_cmp r.0 (keys_of rs) up))))
      (λ (low : is_le (listing_cmp s r.0) ≡ false). rw (not_from s r.0 low) (past_bucket rs row rest (sorted_tail listing_cmp r.0 (keys_of rs) up) (rw low at is) bucket))
      (cases_Bool (is_le (listing_cmp s r.0)))

  pub none_named : (rows : List (Spot × V)) → s.num ≡ LAST_VERSION → AreInRange rows → row_from s rows ≡ None → first_named s rows ≡ None
  none_named [] last all none = refl
  none_named (r ∷ rs) last all none = ⊎_elim
      (λ (here : is_from s r.0 ≡ true). let some : Some r ≡ None = rw here at none in cc)
      (λ (before : is_from s r.0 ≡ false). rw (not_named s r.0 last all.0 before) (none_named rs last all.1 (rw before at none)))
      (cases_Bool (is_from s r.0))

  pub named_first : (rows : List (Spot × V)) (row : Spot × V) → s.num ≡ LAST_VERSION → AreInRange rows → row_from s rows ≡ Some row → is_named s row.0 ≡ true → first_named s rows ≡ Some row
  named_first [] row last all is named = cc
  named_first (r ∷ rs) row last all is named = ⊎_elim
      (λ (here : is_from s r.0 ≡ true). let same : r ≡ row = same_one (rw here at is) in rw (subst (λ x. is_named s x.0 ≡ true) (sym same) named) (ap Some same))
      (λ (before : is_from s r.0 ≡ false). rw (not_named s r.0 last all.0 before) (named_first rs row last all.1 (rw before at is) named))
      (cases_Bool (is_from s r.0))

  pub other_name : (rows : List (Spot × V)) (row : Spot × V) → s.num ≡ LAST_VERSION → AreAscending rows → AreInRange rows → row_from s rows ≡ Some row → is_named s row.0 ≡ false → first_named s rows ≡ None
  other_name [] row last up all is other = refl
  other_name (r ∷ rs) row last up all is other = ⊎_elim
      (λ (here : is_from s r.0 ≡ true).
      let same : r ≡ row = same_one (rw here at is) in
      let not_it : is_named s r.0 ≡ false = subst (λ x. is_named s x.0 ≡ false) (sym same) other in
      rw not_it (none_found (λ x. is_named s x.0) rs (by_keys (λ t. listing_cmp r.0 t ≡ Less) (λ x. is_named s x.0 ≡ false) (λ x later. past_name s r.0 x.0 here not_it later) rs (sorted_head listing_cmp r.0 (keys_of rs) up))))
      (λ (before : is_from s r.0 ≡ false). rw (not_named s r.0 last all.0 before) (other_name rs row last (sorted_tail listing_cmp r.0 (keys_of rs) up) all.1 (rw before at is) other))
      (cases_Bool (is_from s r.0))

  -- the row that is found lies at s or after it, in its bucket
  found_from : (rows : List (Spot × V)) (row : Spot × V) → row_from s rows ≡ Some row → is_from s row.0 ≡ true
  found_from [] row is = cc
  found_from (r ∷ rs) row is = ⊎_elim
      (λ (here : is_from s r.0 ≡ true). subst (λ x. is_from s x.0 ≡ true) (same_one (rw here at is)) here)
      (λ (before : is_from s r.0 ≡ false). found_from rs row (rw before at is))
      (cases_Bool (is_from s r.0))

  pub found_named : (rows : List (Spot × V)) (row : Spot × V) → row_from s rows ≡ Some row → (b : Bool) → bytes_eq row.0.name s.name ≡ b → is_named s row.0 ≡ b
  found_named rows row is b name = ap (λ v. v && bytes_eq row.0.name s.name) (and_parts (row.0.bucket == s.bucket) (is_le (listing_cmp s row.0)) (found_from rows row is)).0 ∙ name

-- ---- from a bucket on

-- in an order of the names, after the empty one
names_after : (name : List ℕ) (m n : ℕ) → m ≤ n → is_le (ordering_then (slice_cmp nat_cmp [] name) (nat_cmp m n)) ≡ true
names_after [] m n low = up_to m n low
names_after (x ∷ xs) m n low = refl

by_bucket : (b c : ℕ) (o p : Ordering) → nat_cmp b c ≡ o → is_le p ≡ true → is_le (ordering_then (nat_cmp b c) p) ≡ nat_le b c
by_bucket b c Less p is inner = let low = less_from b c is in let e : nat_le b c ≡ true = grind (arith, nat_tests) in rw (is, e) refl
by_bucket b c Equal p is inner = let same = same_from b c is in let e : nat_le b c ≡ true = grind (arith, nat_tests) in rw (is, e) inner
by_bucket b c Greater p is inner = let high = greater_from b c is in let e : nat_le b c ≡ false = grind (arith, nat_tests) in rw (is, e) refl

-- what stands at the bucket's first spot or after it is of the bucket or of a later one
first_is : (b : ℕ) (t : Spot) → t.num ≤ LAST_VERSION → is_le (listing_cmp (first_spot b) t) ≡ nat_le b t.bucket
first_is b t within = by_bucket b t.bucket (nat_cmp b t.bucket) _ refl (names_after t.name t.num LAST_VERSION within)

module _ {V : Type 0} where
  pub from_first : (b : ℕ) (rows : List (Spot × V)) → AreInRange rows → from_here (first_spot b) rows ≡ filter (λ r. nat_le b r.0.bucket) rows
  from_first b [] all = refl
  from_first b (r ∷ rs) all = rw (with_true (is_le (listing_cmp (first_spot b) r.0)) ∙ first_is b r.0 all.0, from_first b rs all.1) refl
