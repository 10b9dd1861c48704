-- Whether versions stand in a bucket, from the first row of it or of a later one.
use Rattle.std.proofs.Common.{◌≡◌, ℕ, ◌<◌, ◌≤◌, ◌==◌, nat_le, Bool, true, false, List, [], ◌∷◌, filter, subst, sym, ap, ◌∙◌, inl, inr, ⊎_elim, refl, arith, Less, Greater, nat_cmp}
use Rattle.std.specs.declared.cmp.Ordering.{Ordering}
use Rattle.std.specs.Ordering.{ordering_then}
use Rattle.std.specs.List.{AllByRecursion, Contains, list_any}
use Rattle.std.specs.Map.{keys_of}
use Rattle.std.specs.Cmp.{nat_cmp_is}
use Rattle.std.specs.Cmp.Lexicographic.{slice_cmp}
use Rattle.std.proofs.lemmas.Bool.{cases_Bool, cases_lt, eqb-true, false≢true}
use Rattle.std.proofs.lemmas.Bool.Decides.{nat_tests}
use Rattle.std.proofs.lemmas.Map.Keys.{sorted_head}
use Rattle.b2_types.specs.declared.version.VersionOf.{VersionOf}
use Rattle.version_index.specs.declared.spot.Spot.{Spot}
use Rattle.version_index.specs.Rows.{AreAscending, listing_cmp}
use Rattle.index_rows.specs.OwnRows.{AreRowsOf, own_row, spot_of}
use Rattle.index_rows.proofs.Members.{first_or_rest, here, kept, later, none_in_empty}
use Rattle.index_rows.proofs.Places.{of_rows}

module _ {X : Type 0} (p : X → Bool) where
  none_any : (xs : List X) → ((x : X) → Contains xs x → p x ≡ false) → list_any p xs ≡ false
  none_any [] each = refl
  none_any (x ∷ xs) each = rw (each x (here x xs)) (none_any xs (λ y a. each y (later x xs y a)))

  some_any : (xs : List X) (x : X) → Contains xs x → p x ≡ true → list_any p xs ≡ true
  some_any [] x a is = absurd (none_in_empty x a)
  some_any (y ∷ ys) x a is = ⊎_elim
      (λ (first : p y ≡ true). rw first refl)
      (λ (other : p y ≡ false). rw other (elim ((first_or_rest y ys x).0 a) [ inl same ↦ absurd (false≢true (sym other ∙ ap p same ∙ is)) | inr b ↦ some_any ys x b is ]))
      (cases_Bool (p y))

not_true : (b : Bool) → (b ≡ true → ⊥) → b ≡ false
not_true true far = absurd (far refl)
not_true false far = refl

-- a row before another is of no later bucket
no_later : (s t : Spot) → listing_cmp s t ≡ Less → s.bucket ≤ t.bucket
no_later s t less = by_test (nat_cmp s.bucket t.bucket) (ordering_then (slice_cmp nat_cmp s.name t.name) (nat_cmp t.num s.num)) less refl
  where
    by_test : (o rest : Ordering) → ordering_then o rest ≡ Less → nat_cmp s.bucket t.bucket ≡ o → s.bucket ≤ t.bucket
    by_test o rest less is = ⊎_elim
        (λ (low : t.bucket < s.bucket).
        let greater : o ≡ Greater = sym is ∙ sym (nat_cmp_is s.bucket t.bucket Greater low) in
        let bad : Greater ≡ Less = rw greater at less in
        cc)
        (λ (high : s.bucket ≤ t.bucket). high)
        (cases_lt t.bucket s.bucket)

module _ {C : Type 0} where
  each_later : (s : Spot) (rows : List (Spot × VersionOf C)) → AllByRecursion (λ t. listing_cmp s t ≡ Less) (keys_of rows) → (r : Spot × VersionOf C) → Contains rows r → listing_cmp s r.0 ≡ Less
  each_later s [] all r a = absurd (none_in_empty r a)
  each_later s (x ∷ xs) all r a = elim ((first_or_rest x xs r).0 a) [ inl is ↦ subst (λ y. listing_cmp s y.0 ≡ Less) is all.0 | inr b ↦ each_later s xs all.1 r b ]

  abbrev pub from : ℕ → List (Spot × VersionOf C) → List (Spot × VersionOf C)
  from bucket rows = filter (λ r. nat_le bucket r.0.bucket) rows

  -- the row of a version of the bucket is among these
  among : (bucket : ℕ) (vs : List (VersionOf C)) (rows : List (Spot × VersionOf C)) (v : VersionOf C) → AreRowsOf vs rows → Contains vs v → (v.bucket == bucket) ≡ true → Contains (from bucket rows) (own_row v)
  among bucket vs rows v are a is =
      let same = eqb-true v.bucket bucket is in
      let high : nat_le bucket v.bucket ≡ true = grind (arith, nat_tests) in
      (kept (λ r. nat_le bucket r.0.bucket) rows (own_row v)).1 ((are.same v).1 a, high)

  pub none_from : (bucket : ℕ) (vs : List (VersionOf C)) (rows : List (Spot × VersionOf C)) → AreRowsOf vs rows → from bucket rows ≡ [] → list_any (λ v. v.bucket == bucket) vs ≡ false
  none_from bucket vs rows are none = none_any (λ v. v.bucket == bucket) vs (λ v a. not_true (v.bucket == bucket) (λ is. none_in_empty (own_row v) (subst (λ l. Contains l (own_row v)) none (among bucket vs rows v are a is))))

  pub first_from : (bucket : ℕ) (vs : List (VersionOf C)) (rows : List (Spot × VersionOf C)) (r : Spot × VersionOf C) (rest : List (Spot × VersionOf C)) → AreRowsOf vs rows → AreAscending (from bucket rows) → from bucket rows ≡ r ∷ rest
      → list_any (λ v. v.bucket == bucket) vs ≡ (r.0.bucket == bucket)
  first_from bucket vs rows r rest are up first =
      let there = (kept (λ s. nat_le bucket s.0.bucket) rows r).0 (subst (λ l. Contains l r) (sym first) (here r rest)) in
      ⊎_elim
      (λ (is : (r.0.bucket == bucket) ≡ true). some_any (λ v. v.bucket == bucket) vs r.1 (of_rows vs rows r are there.0) (ap (λ s. s.bucket == bucket) (sym (are.own r there.0)) ∙ is) ∙ sym is)
      (λ (no : (r.0.bucket == bucket) ≡ false). none_any (λ v. v.bucket == bucket) vs (λ v a. not_true (v.bucket == bucket) (λ is.
      let same = eqb-true v.bucket bucket is in
      let high = there.1 in
      elim ((first_or_rest r rest (own_row v)).0 (subst (λ l. Contains l (own_row v)) first (among bucket vs rows v are a is))) [
        | inl e ↦ false≢true (sym no ∙ ap (λ s. s.0.bucket == bucket) e ∙ is)
        | inr b ↦
            let low : r.0.bucket ≤ v.bucket = no_later r.0 (spot_of v) (each_later r.0 rest (sorted_head listing_cmp r.0 (keys_of rest) (subst AreAscending first up)) (own_row v) b) in
            let at : (r.0.bucket == bucket) ≡ true = grind (arith, nat_tests) in
            false≢true (sym no ∙ at)
      ])) ∙ sym no)
      (cases_Bool (r.0.bucket == bucket))
