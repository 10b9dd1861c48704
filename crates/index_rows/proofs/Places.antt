-- Versions that come, go and change, and their rows.
use Rattle.std.proofs.Common.{◌≡◌, ◌≢◌, ℕ, ◌<◌, ◌⊎◌, ◌↔◌, ◌==◌, nat_lt, Bool, true, false, not, cond, Option, None, Some, List, [], ◌∷◌, get_or, map, filter, fold, subst, sym, ap, ◌∙◌, inl, inr, ⊎_elim, refl, arith, is_eq, is_some, Less}
use Rattle.std.specs.List.{All, AllByRecursion, AllPairs, Contains}
use Rattle.std.specs.List.Sorted.{IsStrictlySortedBy}
use Rattle.std.specs.Map.{keys_of}
use Rattle.std.proofs.lemmas.Bool.{and_from, and_parts, cases_Bool, eqb-true, false≢true}
use Rattle.std.proofs.lemmas.Bool.Decides.{nat_tests}
use Rattle.std.proofs.lemmas.List.{get_or_default}
use Rattle.std.proofs.lemmas.List.Kept.{AllPairs-cons}
use Rattle.std.proofs.lemmas.Map.Keys.{sorted_head, sorted_tail}
use Rattle.b2_types.specs.declared.version.VersionOf.{VersionOf}
use Rattle.b2_model.specs.Lists.{put_by}
use Rattle.b2_model.specs.Plan.{id_of}
use Rattle.b2_model.specs.Version.{is_it}
use Rattle.version_index.specs.declared.spot.Spot.{Spot}
use Rattle.version_index.specs.Rows.{AreAscending, is_spot, listing_cmp, placed, value_at, without}
use Rattle.version_index.proofs.Members.{changed, itself, one_order_of, one_spot, placed_members, placed_order, without_members, without_order}
use Rattle.index_rows.specs.OwnRows.{AreNumbered, AreOwn, AreRowsOf, HaveOwnNumbers, by_number, own_row, spot_of}
use Rattle.index_rows.proofs.Members.{first_or_rest, here, kept, later, mapped, mapped_back, none_in_empty, pairs_head, pairs_tail}

-- ---- an item at its place by number

module _ {X : Type 0} (num : X → ℕ) where
  pub put_members : (x : X) (xs : List X) (y : X) → Contains (put_by num x xs) y ↔ ((x ≡ y) ⊎ Contains xs y)
  put_members x [] y = first_or_rest x [] y
  put_members x (z ∷ zs) y = ⊎_elim
      (λ (first : nat_lt (num x) (num z) ≡ true). rw first (first_or_rest x (z ∷ zs) y))
      (λ (after : nat_lt (num x) (num z) ≡ false). rw after (let rest = put_members x zs y in let whole = first_or_rest z (put_by num x zs) y in let old = first_or_rest z zs y in (
        λ a. elim (whole.0 a) [ inl is ↦ inr (old.1 (inl is)) | inr b ↦ elim (rest.0 b) [ inl is ↦ inl is | inr d ↦ inr (old.1 (inr d)) ] ],
        λ u. whole.1 (elim u [ inl is ↦ inr (rest.1 (inl is)) | inr a ↦ elim (old.0 a) [ inl is ↦ inl is | inr d ↦ inr (rest.1 (inr d)) ] ]),
      )))
      (cases_Bool (nat_lt (num x) (num z)))

  all_of : (P : X → Type 0) (xs : List X) → ((y : X) → Contains xs y → P y) → All P xs
  all_of P xs each k d within = each (get_or xs k d) (k, within, sym (get_or_default xs k d (get_or xs k d) within))

  abbrev pub Ascends : List X → Type 0
  Ascends xs = AllPairs (λ a b. num a < num b) xs

  pub put_ascends : (x : X) (xs : List X) → Ascends xs → ((y : X) → Contains xs y → num x ≢ num y) → Ascends (put_by num x xs)
  put_ascends x [] up apart = AllPairs-cons (λ a b. num a < num b) x [] (all_of (λ b. num x < num b) [] (λ y a. absurd (none_in_empty y a))) up
  put_ascends x (z ∷ zs) up apart = ⊎_elim
      (λ (first : nat_lt (num x) (num z) ≡ true). rw first (AllPairs-cons (λ a b. num a < num b) x (z ∷ zs) (all_of (λ b. num x < num b) (z ∷ zs) (λ y a. above y first ((first_or_rest z zs y).0 a))) up))
      (λ (after : nat_lt (num x) (num z) ≡ false). rw after (AllPairs-cons (λ a b. num a < num b) z (put_by num x zs) (all_of (λ b. num z < num b) (put_by num x zs) (λ y a. over y after ((put_members x zs y).0 a))) (put_ascends x zs (pairs_tail (λ a b. num a < num b) z zs up) (λ y a. apart y (later z zs y a)))))
      (cases_Bool (nat_lt (num x) (num z)))
    where
      below : (a b : ℕ) → nat_lt a b ≡ true → a < b
      below a b is = grind (arith, nat_tests)

      from : (a b : ℕ) → nat_lt a b ≡ false → a ≢ b → b < a
      from a b is other = grind (arith, nat_tests)

      above : (y : X) → nat_lt (num x) (num z) ≡ true → (z ≡ y) ⊎ Contains zs y → num x < num y
      above y first (inl is) = subst (λ w. num x < num w) is (below (num x) (num z) first)
      above y first (inr a) = let low = below (num x) (num z) first in let high = pairs_head (λ a b. num a < num b) z zs up y a in omega arith

      over : (y : X) → nat_lt (num x) (num z) ≡ false → (x ≡ y) ⊎ Contains zs y → num z < num y
      over y after (inl is) = subst (λ w. num z < num w) is (from (num x) (num z) after (apart z (here z zs)))
      over y after (inr a) = pairs_head (λ a b. num a < num b) z zs up y a

-- ---- rows at their spots

not_itself : (s t : Spot) → s ≡ t → listing_cmp t s ≡ Less → ⊥
not_itself s t same low = false≢true (sym (ap is_eq low) ∙ itself t s (sym same))

pub none_ascend : (C : Type 0) → AreAscending {V = VersionOf C} []
unfolding IsStrictlySortedBy
none_ascend C = tt

module _ {C : Type 0} where
  pub own_is : (r : Spot × VersionOf C) → r.0 ≡ spot_of r.1 → own_row r.1 ≡ r
  own_is r is = ap (λ (s : Spot). let p : Spot × VersionOf C = (s, r.1) in p) (sym is)

  pub of_rows : (versions : List (VersionOf C)) (rows : List (Spot × VersionOf C)) (r : Spot × VersionOf C) → AreRowsOf versions rows → Contains rows r → Contains versions r.1
  of_rows versions rows r are a = (are.same r.1).0 (subst (Contains rows) (sym (own_is r (are.own r a))) a)

  of_keys : (P : Spot → Type 0) (rows : List (Spot × VersionOf C)) (r : Spot × VersionOf C) → AllByRecursion P (keys_of rows) → Contains rows r → P r.0
  of_keys P [] r all a = absurd (none_in_empty r a)
  of_keys P (x ∷ xs) r all a = elim ((first_or_rest x xs r).0 a) [ inl is ↦ subst (λ y. P y.0) is all.0 | inr b ↦ of_keys P xs r all.1 b ]

  pub found_at : (rows : List (Spot × VersionOf C)) (r : Spot × VersionOf C) → AreAscending rows → Contains rows r → value_at r.0 rows ≡ Some r.1
  found_at [] r up a = absurd (none_in_empty r a)
  found_at (x ∷ xs) r up a = elim ((first_or_rest x xs r).0 a) [
    | inl is ↦ rw (itself r.0 x.0 (ap (λ p. p.0) (sym is))) (ap (λ p. let o : Option (VersionOf C) = Some p.1 in o) is)
    | inr b ↦ ⊎_elim
        (λ (same : is_spot r.0 x.0 ≡ true). absurd (not_itself r.0 x.0 (one_spot r.0 x.0 same) (of_keys (λ t. listing_cmp x.0 t ≡ Less) xs r (sorted_head listing_cmp x.0 (keys_of xs) up) b)))
        (λ (other : is_spot r.0 x.0 ≡ false). rw other (found_at xs r (sorted_tail listing_cmp x.0 (keys_of xs) up) b))
        (cases_Bool (is_spot r.0 x.0))
  ]

  pub none_at : (s : Spot) (rows : List (Spot × VersionOf C)) → ((r : Spot × VersionOf C) → Contains rows r → s ≢ r.0) → value_at s rows ≡ None
  none_at s [] apart = refl
  none_at s (x ∷ xs) apart = ⊎_elim
      (λ (same : is_spot s x.0 ≡ true). absurd (apart x (here x xs) (one_spot s x.0 same)))
      (λ (other : is_spot s x.0 ≡ false). rw other (none_at s xs (λ r a. apart r (later x xs r a))))
      (cases_Bool (is_spot s x.0))

  -- ---- the laws

  across : (versions : List (VersionOf C)) (rows others : List (Spot × VersionOf C)) (r : Spot × VersionOf C) → AreRowsOf versions rows → AreRowsOf versions others → Contains rows r → Contains others r
  across versions rows others r are also a = subst (Contains others) (own_is r (are.own r a)) ((also.same r.1).1 (of_rows versions rows r are a))

  pub one_index_of : (versions : List (VersionOf C)) (rows others : List (Spot × VersionOf C)) → AreRowsOf versions rows → AreRowsOf versions others → rows ≡ others
  one_index_of versions rows others are also = one_order_of rows others are.order also.order (λ r. (across versions rows others r are also, across versions others rows r also are))

  pub empty_rows : AreRowsOf {C = C} [] []
  empty_rows = record {
    order = none_ascend C;
    own = λ r a. absurd (none_in_empty r a);
    same = λ v. (λ a. absurd (none_in_empty (own_row v) a), λ a. absurd (none_in_empty v a));
  }

  pub found : (versions : List (VersionOf C)) (rows : List (Spot × VersionOf C)) (v : VersionOf C) → AreRowsOf versions rows → Contains versions v → value_at (spot_of v) rows ≡ Some v
  found versions rows v are a = found_at rows (own_row v) are.order ((are.same v).1 a)

  pub free : (versions : List (VersionOf C)) (rows : List (Spot × VersionOf C)) (s : Spot) → AreRowsOf versions rows → ((w : VersionOf C) → Contains versions w → w.num ≢ s.num) → value_at s rows ≡ None
  free versions rows s are apart = none_at s rows (λ r a same. apart r.1 (of_rows versions rows r are a) (sym (ap (λ t. t.num) (same ∙ are.own r a))))

  -- the same versions in another list
  moved : (versions others : List (VersionOf C)) (rows : List (Spot × VersionOf C)) → AreRowsOf versions rows → ((v : VersionOf C) → Contains versions v ↔ Contains others v) → AreRowsOf others rows
  moved versions others rows are same = record {
    order = are.order;
    own = are.own;
    same = λ v. (λ a. (same v).0 ((are.same v).0 a), λ a. (are.same v).1 ((same v).1 a));
  }

  pub added : (versions : List (VersionOf C)) (rows : List (Spot × VersionOf C)) (v : VersionOf C) → AreRowsOf versions rows → value_at (spot_of v) rows ≡ None → AreRowsOf (put_by (λ w. w.num) v versions) (placed (own_row v) rows)
  added versions rows v are none = record {
    order = placed_order (own_row v) rows are.order none;
    own = λ r a. elim ((placed_members (own_row v) rows r).0 a) [ inl is ↦ subst (λ (p : Spot × VersionOf C). p.0 ≡ spot_of p.1) is refl | inr b ↦ are.own r b ];
    same = λ w. (
      λ a. (put_members (λ u. u.num) v versions w).1 (elim ((placed_members (own_row v) rows (own_row w)).0 a) [ inl is ↦ inl (ap (λ p. p.1) is) | inr b ↦ inr ((are.same w).0 b) ]),
      λ a. (placed_members (own_row v) rows (own_row w)).1 (elim ((put_members (λ u. u.num) v versions w).0 a) [ inl is ↦ inl (ap own_row is) | inr b ↦ inr ((are.same w).1 b) ]),
    );
  }

  -- versions of one number are one
  pub one_number : (versions : List (VersionOf C)) (v w : VersionOf C) → AreNumbered versions → Contains versions v → Contains versions w → v.num ≡ w.num → v ≡ w
  one_number [] v w up a b same = absurd (none_in_empty v a)
  one_number (x ∷ xs) v w up a b same =
      elim ((first_or_rest x xs v).0 a) [
        | inl is ↦ elim ((first_or_rest x xs w).0 b) [
          | inl also ↦ sym is ∙ also
          | inr d ↦ absurd (let low = pairs_head (λ p q. p.num < q.num) x xs up w d in let e = ap (λ u. u.num) is in omega arith)
        ]
        | inr d ↦ elim ((first_or_rest x xs w).0 b) [
          | inl also ↦ absurd (let low = pairs_head (λ p q. p.num < q.num) x xs up v d in let e = ap (λ u. u.num) also in omega arith)
          | inr more ↦ one_number xs v w (pairs_tail (λ p q. p.num < q.num) x xs up) d more same
        ]
      ]

  it_is : (v w : VersionOf C) → spot_of v ≡ spot_of w → is_it (id_of v) w ≡ true
  it_is v w same = let b = ap (λ s. s.bucket) same in let n = ap (λ s. s.num) same in and_from (w.bucket == v.bucket) (w.num == v.num) (grind (arith, nat_tests)) (grind (arith, nat_tests))

  pub only_it : (versions : List (VersionOf C)) (v w : VersionOf C) → AreNumbered versions → Contains versions v → Contains versions w → is_it (id_of v) w ≡ true → v ≡ w
  only_it versions v w up a b is = one_number versions v w up a b (sym (eqb-true w.num v.num (and_parts (w.bucket == v.bucket) (w.num == v.num) is).1))

  not_it : (versions : List (VersionOf C)) (v w : VersionOf C) → AreNumbered versions → Contains versions v → Contains versions w → spot_of v ≢ spot_of w → not (is_it (id_of v) w) ≡ true
  not_it versions v w up a b other = ⊎_elim
      (λ (is : is_it (id_of v) w ≡ true). absurd (other (ap spot_of (only_it versions v w up a b is))))
      (λ (no : is_it (id_of v) w ≡ false). ap not no)
      (cases_Bool (is_it (id_of v) w))

  other_spot_of : (v w : VersionOf C) → not (is_it (id_of v) w) ≡ true → spot_of v ≢ spot_of w
  other_spot_of v w other same = false≢true (sym (ap not (it_is v w same)) ∙ other)

  pub removed : (versions : List (VersionOf C)) (rows : List (Spot × VersionOf C)) (v : VersionOf C) → AreNumbered versions → AreRowsOf versions rows → Contains versions v → AreRowsOf (filter (λ w. not (is_it (id_of v) w)) versions) (without (spot_of v) rows)
  removed versions rows v up are a = record {
    order = without_order (spot_of v) rows are.order;
    own = λ r b. are.own r ((without_members (spot_of v) rows r).0 b).0;
    same = λ w. (
      λ b. let old = (without_members (spot_of v) rows (own_row w)).0 b in let there = (are.same w).0 old.0 in (kept (λ u. not (is_it (id_of v) u)) versions w).1 (there, not_it versions v w up a there old.1),
      λ b. let old = (kept (λ u. not (is_it (id_of v) u)) versions w).0 b in (without_members (spot_of v) rows (own_row w)).1 ((are.same w).1 old.0, other_spot_of v w old.1),
    );
  }

  abbrev at_it : VersionOf C → (VersionOf C → VersionOf C) → VersionOf C → VersionOf C
  at_it v f u = cond (is_it (id_of v) u) (f u) u

  -- the version changed in place, and the same taken out and put back
  same_change : (versions : List (VersionOf C)) (v : VersionOf C) (f : VersionOf C → VersionOf C) (w : VersionOf C) → AreNumbered versions → Contains versions v
      → Contains (put_by (λ u. u.num) (f v) (filter (λ u. not (is_it (id_of v) u)) versions)) w ↔ Contains (map (λ u. cond (is_it (id_of v) u) (f u) u) versions) w
  same_change versions v f w up a = (
    λ b. elim ((put_members (λ u. u.num) (f v) (filter (λ u. not (is_it (id_of v) u)) versions) w).0 b) [
      | inl is ↦ subst (Contains (map (at_it v f) versions)) (rw (it_is v v refl) is) (mapped (at_it v f) versions v a)
      | inr d ↦ let old = (kept (λ u. not (is_it (id_of v) u)) versions w).0 d in subst (Contains (map (at_it v f) versions)) (stays w (not_so (is_it (id_of v) w) old.1)) (mapped (at_it v f) versions w old.0)
    ],
    λ b. let old = mapped_back (at_it v f) versions w b in (put_members (λ u. u.num) (f v) (filter (λ u. not (is_it (id_of v) u)) versions) w).1 (⊎_elim
        (λ (is : is_it (id_of v) old.0 ≡ true). inl (ap f (only_it versions v old.0 up a old.1 is) ∙ sym (changes old.0 is) ∙ old.2))
        (λ (no : is_it (id_of v) old.0 ≡ false). let same : old.0 ≡ w = sym (stays old.0 no) ∙ old.2 in inr ((kept (λ u. not (is_it (id_of v) u)) versions w).1 (subst (Contains versions) same old.1, ap (λ u. not (is_it (id_of v) u)) (sym same) ∙ ap not no)))
        (cases_Bool (is_it (id_of v) old.0))),
  ) where
    not_so : (b : Bool) → not b ≡ true → b ≡ false
    not_so true is = absurd (false≢true is)
    not_so false is = refl

    stays : (u : VersionOf C) → is_it (id_of v) u ≡ false → at_it v f u ≡ u
    stays u other = rw other refl

    changes : (u : VersionOf C) → is_it (id_of v) u ≡ true → at_it v f u ≡ f u
    changes u is = rw is refl

  pub changed_rows : (versions : List (VersionOf C)) (rows : List (Spot × VersionOf C)) (v : VersionOf C) (f : VersionOf C → VersionOf C) → AreNumbered versions → AreRowsOf versions rows → Contains versions v → spot_of (f v) ≡ spot_of v
      → AreRowsOf (map (λ w. cond (is_it (id_of v) w) (f w) w) versions) (map (λ r. cond (is_spot (spot_of v) r.0) (own_row (f v)) r) rows)
  changed_rows versions rows v f up are a same =
      let rest = removed versions rows v up are a in
      let none = none_at (spot_of (f v)) (without (spot_of v) rows) (λ r b e. ((without_members (spot_of v) rows r).0 b).1 (sym same ∙ e)) in
      let back = moved _ _ _ (added (filter (λ w. not (is_it (id_of v) w)) versions) (without (spot_of v) rows) (f v) rest none) (λ w. same_change versions v f w up a) in
      let some : is_some (value_at (spot_of v) rows) ≡ true = ap is_some (found versions rows v are a) in
      let at_place : placed (own_row (f v)) (without (spot_of v) rows) ≡ map (λ r. cond (is_spot (spot_of v) r.0) (own_row (f v)) r) rows =
      ap (λ (t : Spot). placed (t, f v) (without (spot_of v) rows)) same ∙ changed (spot_of v) (f v) rows are.order some
      ∙ ap (λ (t : Spot). map (λ r. cond (is_spot (spot_of v) r.0) (t, f v) r) rows) (sym same) in
      subst (AreRowsOf (map (λ w. cond (is_it (id_of v) w) (f w) w) versions)) at_place back

  -- ---- by number

  numbers : (rows : List (Spot × VersionOf C)) (vs : List (VersionOf C)) (v : VersionOf C) → Contains (fold (λ ws r. put_by (λ u. u.num) r.1 ws) vs rows) v ↔ (Contains vs v ⊎ ((r : Spot × VersionOf C) × Contains rows r × (r.1 ≡ v)))
  numbers [] vs v = (inl, λ u. elim u [ inl a ↦ a | inr a ↦ absurd (none_in_empty a.0 a.1) ])
  numbers (x ∷ xs) vs v =
      let rest = numbers xs (put_by (λ u. u.num) x.1 vs) v in
      let put = put_members (λ u. u.num) x.1 vs v in (
        λ a. elim (rest.0 a) [ inl b ↦ elim (put.0 b) [ inl is ↦ inr (x, here x xs, is) | inr d ↦ inl d ] | inr b ↦ inr (b.0, later x xs b.0 b.1, b.2) ],
        λ u. rest.1 (elim u [ inl a ↦ inl (put.1 (inr a)) | inr a ↦ elim ((first_or_rest x xs a.0).0 a.1) [ inl is ↦ inl (put.1 (inl (ap (λ r. r.1) is ∙ a.2))) | inr b ↦ inr (a.0, b, a.2) ] ]),
      )

  pub made : (rows : List (Spot × VersionOf C)) → AreAscending rows → AreOwn rows → AreRowsOf (by_number rows) rows
  made rows up own = record {
    order = up;
    own = own;
    same = λ v. (
      λ a. (numbers rows [] v).1 (inr (own_row v, a, refl)),
      λ a. elim ((numbers rows [] v).0 a) [ inl none ↦ absurd (none_in_empty v none) | inr b ↦ subst (Contains rows) (sym (own_is b.0 (own b.0 b.1)) ∙ ap own_row b.2) b.1 ],
    );
  }

  numbered_from : (rows : List (Spot × VersionOf C)) (vs : List (VersionOf C)) → AreNumbered vs → HaveOwnNumbers rows → ((r : Spot × VersionOf C) (v : VersionOf C) → Contains rows r → Contains vs v → r.1.num ≢ v.num) → AreNumbered (fold (λ ws r. put_by (λ u. u.num) r.1 ws) vs rows)
  numbered_from [] vs up own apart = up
  numbered_from (x ∷ xs) vs up own apart = numbered_from xs (put_by (λ u. u.num) x.1 vs)
      (put_ascends (λ u. u.num) x.1 vs up (λ v a. apart x v (here x xs) a))
      (pairs_tail (λ r s. r.1.num ≢ s.1.num) x xs own)
      (λ r v a b same. elim ((put_members (λ u. u.num) x.1 vs v).0 b) [
        | inl is ↦ pairs_head (λ p q. p.1.num ≢ q.1.num) x xs own r a (ap (λ u. u.num) is ∙ sym same)
        | inr d ↦ apart r v (later x xs r a) d same
      ])

  pub numbered : (rows : List (Spot × VersionOf C)) → HaveOwnNumbers rows → AreNumbered (by_number rows)
  numbered rows own = numbered_from rows [] (λ i j d lt within. absurd (omega arith)) own (λ r v a b. absurd (none_in_empty v b))
