-- Items that come to a map by number, are found and go.
use Rattle.std.proofs.Common.{◌≡◌, ℕ, ◌<◌, ◌==◌, nat_lt, true, false, not, None, Some, List, [], ◌∷◌, filter, find, subst, sym, ap, ◌∙◌, ⊎_elim, refl, arith, is_eq, nat_cmp, Less, Equal, Greater}
use Rattle.std.specs.declared.cmp.Ordering.{Ordering}
use Rattle.std.specs.List.{AllByRecursion}
use Rattle.std.specs.List.Sorted.{IsStrictlySortedBy}
use Rattle.std.specs.Map.{keys_of, values_of, lookup, remove_entry}
use Rattle.std.specs.BTreeMap.{insert_entry, is_at}
use Rattle.std.proofs.lemmas.Bool.{cases_Bool, false≢true}
use Rattle.std.proofs.lemmas.Bool.Decides.{nat_tests}
use Rattle.std.proofs.lemmas.Cmp.{ranked}
use Rattle.std.proofs.lemmas.Map.Keys.{sorted_head, sorted_tail}
use Rattle.b2_model.specs.Lists.{put_by}
use Rattle.numbered_items.specs.Entries.{AreUnder}

pub less_from : (m n : ℕ) → nat_cmp m n ≡ Less → m < n
less_from m n h = rw h at (ranked m n (nat_cmp m n) refl)

pub same_from : (m n : ℕ) → nat_cmp m n ≡ Equal → m ≡ n
same_from m n h = rw h at (ranked m n (nat_cmp m n) refl)

more_from : (m n : ℕ) → nat_cmp m n ≡ Greater → n < m
more_from m n h = rw h at (ranked m n (nat_cmp m n) refl)

-- the map's test of a key, and the list's of a number
by_order : (o : Ordering) (k n : ℕ) → nat_cmp k n ≡ o → is_eq o ≡ (n == k)
by_order Less k n is = let low = less_from k n is in grind (arith, nat_tests)
by_order Equal k n is = let same = same_from k n is in grind (arith, nat_tests)
by_order Greater k n is = let high = more_from k n is in grind (arith, nat_tests)

pub same_test : (k n : ℕ) → is_eq (nat_cmp k n) ≡ (n == k)
same_test k n = by_order (nat_cmp k n) k n refl

module _ {X : Type 0} (num : X → ℕ) where
  test_of : (k : ℕ) (e : ℕ × X) → e.0 ≡ num e.1 → is_eq (nat_cmp k e.0) ≡ (num e.1 == k)
  test_of k e own = same_test k e.0 ∙ ap (λ n. n == k) own

  -- ---- an item is found

  pub found : (k : ℕ) (entries : List (ℕ × X)) → AreUnder num entries → lookup (is_at (nat_cmp k)) entries ≡ find (λ x. num x == k) (values_of entries)
  found k [] under = refl
  found k (e ∷ es) under = ⊎_elim
      (λ (is : (num e.1 == k) ≡ true). rw (is, test_of k e under.0 ∙ is) refl)
      (λ (other : (num e.1 == k) ≡ false). rw (other, test_of k e under.0 ∙ other) (found k es under.1))
      (cases_Bool (num e.1 == k))

  -- ---- an item comes

  not_first : (x : X) (e : ℕ × X) (es : List (ℕ × X)) → AreUnder num (e ∷ es) → find (λ y. num y == num x) (values_of (e ∷ es)) ≡ None → (num e.1 == num x) ≡ false
  not_first x e es under free = ⊎_elim
      (λ (is : (num e.1 == num x) ≡ true). let some : Some e.1 ≡ None = rw is at free in cc)
      (λ other. other)
      (cases_Bool (num e.1 == num x))

  free_rest : (x : X) (e : ℕ × X) (es : List (ℕ × X)) → AreUnder num (e ∷ es) → find (λ y. num y == num x) (values_of (e ∷ es)) ≡ None → find (λ y. num y == num x) (values_of es) ≡ None
  free_rest x e es under free = rw (not_first x e es under free) at free

  place : (o : Ordering) (x : X) (e : ℕ × X) (es : List (ℕ × X)) → nat_cmp (num x) e.0 ≡ o → e.0 ≡ num e.1 → (num e.1 == num x) ≡ false
      → values_of (insert_entry nat_cmp es (num x) x) ≡ put_by num x (values_of es) → values_of (insert_entry nat_cmp (e ∷ es) (num x) x) ≡ put_by num x (values_of (e ∷ es))
  place Less x e es is own other rest =
      let low = less_from (num x) e.0 is in
      let first : nat_lt (num x) (num e.1) ≡ true = grind (arith, nat_tests) in
      rw (is, first) refl
  place Equal x e es is own other rest = let same = same_from (num x) e.0 is in let one : (num e.1 == num x) ≡ true = grind (arith, nat_tests) in absurd (false≢true (sym other ∙ one))
  place Greater x e es is own other rest =
      let high = more_from (num x) e.0 is in
      let after : nat_lt (num x) (num e.1) ≡ false = grind (arith, nat_tests) in
      rw (is, after) (ap (λ l. e.1 ∷ l) rest)

  pub inserted : (x : X) (entries : List (ℕ × X)) → AreUnder num entries → find (λ y. num y == num x) (values_of entries) ≡ None → values_of (insert_entry nat_cmp entries (num x) x) ≡ put_by num x (values_of entries)
  inserted x [] under free = refl
  inserted x (e ∷ es) under free = place (nat_cmp (num x) e.0) x e es refl under.0 (not_first x e es under free) (inserted x es under.1 (free_rest x e es under free))

  under_place : (o : Ordering) (x : X) (e : ℕ × X) (es : List (ℕ × X)) → nat_cmp (num x) e.0 ≡ o → AreUnder num (e ∷ es) → AreUnder num (insert_entry nat_cmp es (num x) x) → AreUnder num (insert_entry nat_cmp (e ∷ es) (num x) x)
  under_place Less x e es is under rest = rw is (refl, under)
  under_place Equal x e es is under rest = rw is (sym (same_from (num x) e.0 is), under.1)
  under_place Greater x e es is under rest = rw is (under.0, rest)

  pub under_inserted : (x : X) (entries : List (ℕ × X)) → AreUnder num entries → AreUnder num (insert_entry nat_cmp entries (num x) x)
  under_inserted x [] under = (refl, tt)
  under_inserted x (e ∷ es) under = under_place (nat_cmp (num x) e.0) x e es refl under (under_inserted x es under.1)

  -- ---- an item goes

  -- of the later ones none has the number
  none_later : (k : ℕ) (es : List (ℕ × X)) → AreUnder num es → AllByRecursion (λ n. nat_cmp k n ≡ Less) (keys_of es) → filter (λ x. not (num x == k)) (values_of es) ≡ values_of es
  none_later k [] under later = refl
  none_later k (e ∷ es) under later =
      let other : (num e.1 == k) ≡ false = sym (test_of k e under.0) ∙ ap is_eq later.0 in
      rw other (ap (λ l. e.1 ∷ l) (none_later k es under.1 later.1))

  pub removed : (k : ℕ) (entries : List (ℕ × X)) → AreUnder num entries → IsStrictlySortedBy nat_cmp (keys_of entries) → values_of (remove_entry (is_at (nat_cmp k)) entries) ≡ filter (λ x. not (num x == k)) (values_of entries)
  removed k [] under order = refl
  removed k (e ∷ es) under order = ⊎_elim
      (λ (is : (num e.1 == k) ≡ true).
      let here : is_eq (nat_cmp k e.0) ≡ true = test_of k e under.0 ∙ is in
      let same : e.0 ≡ k = grind (arith, nat_tests) in
      rw (is, here) (sym (none_later k es under.1 (subst (λ n. AllByRecursion (λ m. nat_cmp n m ≡ Less) (keys_of es)) same (sorted_head nat_cmp e.0 (keys_of es) order)))))
      (λ (other : (num e.1 == k) ≡ false).
      rw (other, test_of k e under.0 ∙ other) (ap (λ l. e.1 ∷ l) (removed k es under.1 (sorted_tail nat_cmp e.0 (keys_of es) order))))
      (cases_Bool (num e.1 == k))

  pub under_removed : (k : ℕ) (entries : List (ℕ × X)) → AreUnder num entries → AreUnder num (remove_entry (is_at (nat_cmp k)) entries)
  under_removed k [] under = under
  under_removed k (e ∷ es) under = ⊎_elim
      (λ (is : is_eq (nat_cmp k e.0) ≡ true). rw is under.1)
      (λ (other : is_eq (nat_cmp k e.0) ≡ false). rw other (under.0, under_removed k es under.1))
      (cases_Bool (is_eq (nat_cmp k e.0)))
