-- Which rows there are, and in which order.
use Rattle.std.proofs.Common.{◌≡◌, ◌≢◌, ℕ, suc, zero, ◌<◌, ◌⊎◌, ◌↔◌, None, Some, true, false, cond, List, [], ◌∷◌, length, get_or, map, subst, sym, ap, ◌∙◌, inl, inr, ⊎_elim, refl, arith, is_eq, is_lt, is_some, nat_cmp, Less, Equal, Greater}
use Rattle.std.specs.declared.cmp.Ordering.{Ordering}
use Rattle.std.specs.List.{AllByRecursion, Contains}
use Rattle.std.specs.List.Sorted.{IsStrictlySortedBy}
use Rattle.std.specs.Map.{keys_of}
use Rattle.std.specs.Ordering.{ordering_reverse, ordering_then}
use Rattle.std.specs.Cmp.{tied_itself}
use Rattle.std.specs.Cmp.Lexicographic.{slice_cmp}
use Rattle.std.proofs.lemmas.Bool.{cases_Bool, false≢true}
use Rattle.std.proofs.lemmas.Map.Lookups.{exact_bytes}
use Rattle.std.proofs.lemmas.Map.Keys.{sorted_head, sorted_tail}
use Rattle.version_index.specs.declared.spot.Spot.{Spot}
use Rattle.version_index.specs.Order.{listing_total}
use Rattle.version_index.specs.Rows.{AreAscending, is_spot, listing_cmp, placed, value_at, without}
use Rattle.version_index.proofs.Orders.{equal_from, not_later, same_from}

-- ---- one spot
then_equal : (p q : Ordering) → ordering_then p q ≡ Equal → (p ≡ Equal) × (q ≡ Equal)
then_equal Less q is = cc
then_equal Equal q is = (refl, is)
then_equal Greater q is = cc

spot_is : (s t : Spot) → s.bucket ≡ t.bucket → s.name ≡ t.name → s.num ≡ t.num → s ≡ t
spot_is s t bucket name num = let p : (let x : Spot = record { bucket = s.bucket; name = s.name; num = s.num } in x) ≡ record { bucket = t.bucket; name = t.name; num = t.num } = rw (bucket, name, num) refl in p

pub one_spot : (s t : Spot) → is_spot s t ≡ true → s ≡ t
one_spot s t is =
    let outer = then_equal (nat_cmp s.bucket t.bucket) (ordering_then (slice_cmp nat_cmp s.name t.name) (nat_cmp t.num s.num)) (equal_from (listing_cmp s t) is) in
    let inner = then_equal (slice_cmp nat_cmp s.name t.name) (nat_cmp t.num s.num) outer.1 in
    spot_is s t (same_from s.bucket t.bucket outer.0) (exact_bytes s.name t.name inner.0) (sym (same_from t.num s.num inner.1))

pub itself : (s t : Spot) → s ≡ t → is_spot s t ≡ true
itself s t same = subst (λ x. is_spot s x ≡ true) same (ap is_eq (tied_itself listing_total s))

pub other_spot : (s t : Spot) → is_spot s t ≡ false → s ≢ t
other_spot s t other same = false≢true (sym other ∙ itself s t same)

-- nothing stands before itself
not_before : (s t : Spot) → s ≡ t → listing_cmp s t ≡ Less → ⊥
not_before s t same low = let here = equal_from (listing_cmp s t) (itself s t same) in cc

-- nor do two before one another
not_both : (s t : Spot) → listing_cmp s t ≡ Less → listing_cmp t s ≡ Less → ⊥
not_both s t low high = not_before s s refl (listing_total.trans s t s low high)

all_later : (s t : Spot) (ks : List Spot) → listing_cmp s t ≡ Less → AllByRecursion (λ k. listing_cmp t k ≡ Less) ks → AllByRecursion (λ k. listing_cmp s k ≡ Less) ks
all_later s t [] low all = all
all_later s t (k ∷ ks) low all = (listing_total.trans s t k low all.0, all_later s t ks low all.1)

module _ {V : Type 0} where
  -- ---- members
  pub first_or_rest : (x : Spot × V) (xs : List (Spot × V)) (r : Spot × V) → Contains (x ∷ xs) r ↔ ((x ≡ r) ⊎ Contains xs r)
  first_or_rest x xs r = (λ a. parts a.0 a.1 a.2, λ u. elim u [ inl is ↦ (0, omega arith, is) | inr a ↦ (suc a.0, omega (arith, a.1), a.2) ]) where
    parts : (k : ℕ) → k < length (x ∷ xs) → get_or (x ∷ xs) k r ≡ r → (x ≡ r) ⊎ Contains xs r
    parts zero inside is = inl is
    parts (suc k) inside is = inr (k, omega arith, is)

  none_in_empty : (r : Spot × V) → Contains [] r → ⊥
  none_in_empty r a = absurd (omega (arith, a.1))

  of_member : (P : Spot → Type 0) (rows : List (Spot × V)) (r : Spot × V) → AllByRecursion P (keys_of rows) → Contains rows r → P r.0
  of_member P [] r all a = absurd (none_in_empty r a)
  of_member P (x ∷ xs) r all a = elim ((first_or_rest x xs r).0 a) [ inl is ↦ subst (λ y. P y.0) is all.0 | inr b ↦ of_member P xs r all.1 b ]

  pub one_order_of : (rows others : List (Spot × V)) → AreAscending rows → AreAscending others → ((r : Spot × V) → Contains rows r ↔ Contains others r) → rows ≡ others
  one_order_of [] [] up also same = refl
  one_order_of [] (y ∷ ys) up also same = absurd (none_in_empty y ((same y).1 ((first_or_rest y ys y).1 (inl refl))))
  one_order_of (x ∷ xs) [] up also same = absurd (none_in_empty x ((same x).0 ((first_or_rest x xs x).1 (inl refl))))
  one_order_of (x ∷ xs) (y ∷ ys) up also same =
      let after_x = sorted_head listing_cmp x.0 (keys_of xs) up in
      let after_y = sorted_head listing_cmp y.0 (keys_of ys) also in
      let is : x ≡ y = elim ((first_or_rest y ys x).0 ((same x).0 ((first_or_rest x xs x).1 (inl refl)))) [
        | inl here ↦ sym here
        | inr a ↦ elim ((first_or_rest x xs y).0 ((same y).1 ((first_or_rest y ys y).1 (inl refl)))) [
          | inl here ↦ here
          | inr b ↦ absurd (not_both x.0 y.0 (of_member (λ t. listing_cmp x.0 t ≡ Less) xs y after_x b) (of_member (λ t. listing_cmp y.0 t ≡ Less) ys x after_y a))
        ]
      ] in
      let rest : xs ≡ ys = one_order_of xs ys (sorted_tail listing_cmp x.0 (keys_of xs) up) (sorted_tail listing_cmp y.0 (keys_of ys) also) (λ r. (
        λ a. elim ((first_or_rest y ys r).0 ((same r).0 ((first_or_rest x xs r).1 (inr a)))) [ inl here ↦ absurd (not_before x.0 r.0 (ap (λ p. p.0) (is ∙ here)) (of_member (λ t. listing_cmp x.0 t ≡ Less) xs r after_x a)) | inr b ↦ b ],
        λ a. elim ((first_or_rest x xs r).0 ((same r).1 ((first_or_rest y ys r).1 (inr a)))) [ inl here ↦ absurd (not_before y.0 r.0 (ap (λ p. p.0) (sym is ∙ here)) (of_member (λ t. listing_cmp y.0 t ≡ Less) ys r after_y a)) | inr b ↦ b ],
      )) in
      rw (is, rest) refl

  -- ---- a row at its place
  pub placed_members : (row : Spot × V) (rows : List (Spot × V)) (r : Spot × V) → Contains (placed row rows) r ↔ ((row ≡ r) ⊎ Contains rows r)
  placed_members row [] r = first_or_rest row [] r
  placed_members row (x ∷ xs) r = ⊎_elim
      (λ (first : is_lt (listing_cmp row.0 x.0) ≡ true). rw first (first_or_rest row (x ∷ xs) r))
      (λ (later : is_lt (listing_cmp row.0 x.0) ≡ false). rw later (let rest = placed_members row xs r in let whole = first_or_rest x (placed row xs) r in let old = first_or_rest x xs r in (
        λ a. elim (whole.0 a) [ inl is ↦ inr (old.1 (inl is)) | inr b ↦ elim (rest.0 b) [ inl is ↦ inl is | inr d ↦ inr (old.1 (inr d)) ] ],
        λ u. whole.1 (elim u [ inl is ↦ inr (rest.1 (inl is)) | inr a ↦ elim (old.0 a) [ inl is ↦ inl is | inr d ↦ inr (rest.1 (inr d)) ] ]),
      )))
      (cases_Bool (is_lt (listing_cmp row.0 x.0)))

  all_placed : (P : Spot → Type 0) (row : Spot × V) (rows : List (Spot × V)) → P row.0 → AllByRecursion P (keys_of rows) → AllByRecursion P (keys_of (placed row rows))
  all_placed P row [] here all = (here, all)
  all_placed P row (x ∷ xs) here all = ⊎_elim
      (λ (first : is_lt (listing_cmp row.0 x.0) ≡ true). rw first (here, all))
      (λ (later : is_lt (listing_cmp row.0 x.0) ≡ false). rw later (all.0, all_placed P row xs here all.1))
      (cases_Bool (is_lt (listing_cmp row.0 x.0)))

  placed_before : (o : Ordering) (row x : Spot × V) (xs : List (Spot × V)) → listing_cmp row.0 x.0 ≡ o → AreAscending (x ∷ xs) → value_at row.0 (x ∷ xs) ≡ None → (value_at row.0 xs ≡ None → AreAscending (placed row xs)) → AreAscending (placed row (x ∷ xs))
  unfolding IsStrictlySortedBy
  placed_before Less row x xs is up free rest = rw is ((is, all_later row.0 x.0 (keys_of xs) is up.0), up)
  placed_before Equal row x xs is up free rest = let found : Some x.1 ≡ None = rw is at free in cc
  placed_before Greater row x xs is up free rest = rw is (all_placed (λ t. listing_cmp x.0 t ≡ Less) row xs (listing_total.antisymm x.0 row.0 ∙ ap ordering_reverse is) up.0, rest (rw is at free))

  pub placed_order : (row : Spot × V) (rows : List (Spot × V)) → AreAscending rows → value_at row.0 rows ≡ None → AreAscending (placed row rows)
  unfolding IsStrictlySortedBy
  placed_order row [] up free = (tt, tt)
  placed_order row (x ∷ xs) up free = placed_before (listing_cmp row.0 x.0) row x xs refl up free (placed_order row xs up.1)

  -- ---- the rows at other spots
  pub without_members : (s : Spot) (rows : List (Spot × V)) (r : Spot × V) → Contains (without s rows) r ↔ (Contains rows r × (s ≢ r.0))
  without_members s [] r = (λ a. absurd (none_in_empty r a), λ a. a.0)
  without_members s (x ∷ xs) r = ⊎_elim
      (λ (here : is_spot s x.0 ≡ true). rw here (let rest = without_members s xs r in let old = first_or_rest x xs r in (
        λ a. let b = rest.0 a in (old.1 (inr b.0), b.1),
        λ a. rest.1 (elim (old.0 a.0) [ inl is ↦ absurd (a.1 (one_spot s x.0 here ∙ ap (λ p. p.0) is)) | inr b ↦ b ], a.1),
      )))
      (λ (other : is_spot s x.0 ≡ false). rw other (let rest = without_members s xs r in let old = first_or_rest x xs r in let whole = first_or_rest x (without s xs) r in (
        λ a. elim (whole.0 a) [ inl is ↦ (old.1 (inl is), subst (λ p. s ≢ p.0) is (other_spot s x.0 other)) | inr b ↦ let d = rest.0 b in (old.1 (inr d.0), d.1) ],
        λ a. whole.1 (elim (old.0 a.0) [ inl is ↦ inl is | inr b ↦ inr (rest.1 (b, a.1)) ]),
      )))
      (cases_Bool (is_spot s x.0))

  all_without : (P : Spot → Type 0) (s : Spot) (rows : List (Spot × V)) → AllByRecursion P (keys_of rows) → AllByRecursion P (keys_of (without s rows))
  all_without P s [] all = all
  all_without P s (x ∷ xs) all = ⊎_elim
      (λ (here : is_spot s x.0 ≡ true). rw here (all_without P s xs all.1))
      (λ (other : is_spot s x.0 ≡ false). rw other (all.0, all_without P s xs all.1))
      (cases_Bool (is_spot s x.0))

  pub without_order : (s : Spot) (rows : List (Spot × V)) → AreAscending rows → AreAscending (without s rows)
  unfolding IsStrictlySortedBy
  without_order s [] up = up
  without_order s (x ∷ xs) up = ⊎_elim
      (λ (here : is_spot s x.0 ≡ true). rw here (without_order s xs up.1))
      (λ (other : is_spot s x.0 ≡ false). rw other (all_without (λ t. listing_cmp x.0 t ≡ Less) s xs up.0, without_order s xs up.1))
      (cases_Bool (is_spot s x.0))

  -- ---- a change at a place
  all_same : (s : Spot) (v : V) (x : Spot) (rows : List (Spot × V)) → is_spot s x ≡ true → AllByRecursion (λ t. listing_cmp x t ≡ Less) (keys_of rows) → (without s rows ≡ rows) × (map (λ r. cond (is_spot s r.0) (s, v) r) rows ≡ rows)
  all_same s v x [] here later = (refl, refl)
  all_same s v x (r ∷ rs) here later = let rest = all_same s v x rs here later.1 in let other = not_later s x r.0 here later.0 in (rw other (ap (λ l. r ∷ l) rest.0), rw other (ap (λ l. r ∷ l) rest.1))

  -- what is put before the later rows comes first
  put_first : (s : Spot) (v : V) (rows : List (Spot × V)) → AllByRecursion (λ t. listing_cmp s t ≡ Less) (keys_of rows) → placed (s, v) rows ≡ (s, v) ∷ rows
  put_first s v [] later = refl
  put_first s v (r ∷ rs) later = rw later.0 refl

  -- a spot that has a row comes after what stands before all of them
  found_after : (s t : Spot) (rows : List (Spot × V)) → is_some (value_at s rows) ≡ true → AllByRecursion (λ k. listing_cmp t k ≡ Less) (keys_of rows) → listing_cmp t s ≡ Less
  found_after s t [] some later = absurd (false≢true some)
  found_after s t (r ∷ rs) some later = ⊎_elim
      (λ (here : is_spot s r.0 ≡ true). subst (λ k. listing_cmp t k ≡ Less) (sym (one_spot s r.0 here)) later.0)
      (λ (other : is_spot s r.0 ≡ false). found_after s t rs (rw other at some) later.1)
      (cases_Bool (is_spot s r.0))

  pub changed : (s : Spot) (v : V) (rows : List (Spot × V)) → AreAscending rows → is_some (value_at s rows) ≡ true → placed (s, v) (without s rows) ≡ map (λ r. cond (is_spot s r.0) (s, v) r) rows
  changed s v [] up some = absurd (false≢true some)
  changed s v (r ∷ rs) up some = ⊎_elim
      (λ (here : is_spot s r.0 ≡ true).
      let after = sorted_head listing_cmp r.0 (keys_of rs) up in
      let same = all_same s v r.0 rs here after in
      let later = subst (λ x. AllByRecursion (λ t. listing_cmp x t ≡ Less) (keys_of rs)) (sym (one_spot s r.0 here)) after in
      rw here (ap (placed (s, v)) same.0 ∙ put_first s v rs later ∙ ap (λ l. (s, v) ∷ l) (sym same.1)))
      (λ (other : is_spot s r.0 ≡ false).
      let more : is_some (value_at s rs) ≡ true = rw other at some in
      let past : is_lt (listing_cmp s r.0) ≡ false = ap is_lt (listing_total.antisymm s r.0 ∙ ap ordering_reverse (found_after s r.0 rs more (sorted_head listing_cmp r.0 (keys_of rs) up))) in
      rw (other, past) (ap (λ l. r ∷ l) (changed s v rs (sorted_tail listing_cmp r.0 (keys_of rs) up) more)))
      (cases_Bool (is_spot s r.0))
