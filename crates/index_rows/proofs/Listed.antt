-- The rows of a bucket are those that the machine lists.
use Rattle.std.proofs.Common.{◌≡◌, ◌≢◌, ℕ, ◌<◌, ◌⊎◌, ◌↔◌, ◌==◌, nat_lt, Bool, true, false, List, [], ◌∷◌, map, filter, fold, subst, sym, ap, ◌∙◌, inl, inr, ⊎_elim, refl, arith, is_lt, nat_cmp, Less, Equal, Greater}
use Rattle.std.specs.declared.cmp.Ordering.{Ordering}
use Rattle.std.specs.Ordering.{match_ordering, ordering_then}
use Rattle.std.specs.List.{AllByRecursion, Contains}
use Rattle.std.specs.List.Sorted.{IsStrictlySortedBy}
use Rattle.std.specs.Map.{keys_of}
use Rattle.std.specs.Cmp.{nat_cmp_total, tied_itself}
use Rattle.std.specs.Cmp.Lexicographic.{slice_cmp}
use Rattle.std.proofs.lemmas.Bool.{cases_Bool, eqb-true}
use Rattle.std.proofs.lemmas.List.Kept.{AllPairs-filter}
use Rattle.b2_types.specs.declared.version.VersionOf.{VersionOf}
use Rattle.b2_model.specs.Rows.{is_before, listing_order, put_row, rows as machine_rows}
use Rattle.b2_model.specs.State.{State}
use Rattle.version_index.specs.declared.spot.Spot.{Spot}
use Rattle.version_index.specs.Rows.{AreAscending, listing_cmp, placed}
use Rattle.version_index.proofs.Members.{one_order_of, placed_order}
use Rattle.index_rows.specs.OwnRows.{AreNumbered, AreRowsOf, of_bucket, own_row, spot_of}
use Rattle.index_rows.proofs.Members.{first_or_rest, here, kept, later, mapped, mapped_back, none_in_empty, pairs_head, pairs_tail}
use Rattle.index_rows.proofs.Places.{none_ascend, none_at, of_rows, own_is}

lower : (m n : ℕ) → is_lt (nat_cmp m n) ≡ nat_lt m n
lower m n = ⊎_elim
    (λ (is : nat_lt m n ≡ true). rw is refl)
    (λ (no : nat_lt m n ≡ false). rw no (⊎_elim (λ (e : (m == n) ≡ true). rw e refl) (λ (e : (m == n) ≡ false). rw e refl) (cases_Bool (m == n))))
    (cases_Bool (nat_lt m n))

by_name : (o : Ordering) (m n : ℕ) → is_lt (ordering_then o (nat_cmp m n)) ≡ match_ordering o true (nat_lt m n) false
by_name Less m n = refl
by_name Equal m n = lower m n
by_name Greater m n = refl

module _ {C : Type 0} where
  abbrev own : List (VersionOf C) → List (Spot × VersionOf C)
  own vs = map own_row vs

  own_back : (vs : List (VersionOf C)) → map (λ r. r.1) (own vs) ≡ vs
  own_back [] = refl
  own_back (v ∷ vs) = ap (λ l. v ∷ l) (own_back vs)

  -- in one bucket the machine's order is that of the spots
  pub before_is : (v w : VersionOf C) → v.bucket ≡ w.bucket → is_lt (listing_cmp (spot_of v) (spot_of w)) ≡ is_before v w
  before_is v w same =
      let here_is : nat_cmp v.bucket w.bucket ≡ Equal = subst (λ n. nat_cmp v.bucket n ≡ Equal) same (tied_itself nat_cmp_total v.bucket) in
      ap (λ o. is_lt (ordering_then o (ordering_then (slice_cmp nat_cmp v.name w.name) (nat_cmp w.num v.num)))) here_is ∙ by_name (slice_cmp nat_cmp v.name w.name) w.num v.num

  abbrev AreOf : ℕ → List (VersionOf C) → Type 0
  AreOf bucket vs = (v : VersionOf C) → Contains vs v → v.bucket ≡ bucket

  put_own : (v : VersionOf C) (ws : List (VersionOf C)) → AreOf v.bucket ws → own (put_row v ws) ≡ placed (own_row v) (own ws)
  put_own v [] all = refl
  put_own v (w ∷ ws) all = ⊎_elim
      (λ (first : is_before v w ≡ true). rw (first, before_is v w (sym (all w (here w ws))) ∙ first) refl)
      (λ (after : is_before v w ≡ false). rw (after, before_is v w (sym (all w (here w ws))) ∙ after) (ap (λ l. own_row w ∷ l) (put_own v ws (λ u a. all u (later w ws u a)))))
      (cases_Bool (is_before v w))

  put_there : (v : VersionOf C) (ws : List (VersionOf C)) (u : VersionOf C) → Contains (put_row v ws) u ↔ ((v ≡ u) ⊎ Contains ws u)
  put_there v [] u = first_or_rest v [] u
  put_there v (w ∷ ws) u = ⊎_elim
      (λ (first : is_before v w ≡ true). rw first (first_or_rest v (w ∷ ws) u))
      (λ (after : is_before v w ≡ false). rw after (let rest = put_there v ws u in let whole = first_or_rest w (put_row v ws) u in let old = first_or_rest w ws u in (
        λ a. elim (whole.0 a) [ inl is ↦ inr (old.1 (inl is)) | inr b ↦ elim (rest.0 b) [ inl is ↦ inl is | inr d ↦ inr (old.1 (inr d)) ] ],
        λ t. whole.1 (elim t [ inl is ↦ inr (rest.1 (inl is)) | inr a ↦ elim (old.0 a) [ inl is ↦ inl is | inr d ↦ inr (rest.1 (inr d)) ] ]),
      )))
      (cases_Bool (is_before v w))

  -- what is sorted in: in order, and the versions of both
  abbrev Sorts : List (VersionOf C) → List (VersionOf C) → List (VersionOf C) → Type 0
  Sorts xs ws sorted = AreAscending (own sorted) × ((v : VersionOf C) → Contains sorted v ↔ (Contains ws v ⊎ Contains xs v))

  sorted_in : (bucket : ℕ) (xs ws : List (VersionOf C)) → AreOf bucket xs → AreOf bucket ws → AreNumbered xs → ((x w : VersionOf C) → Contains xs x → Contains ws w → x.num ≢ w.num) → AreAscending (own ws)
      → Sorts xs ws (fold (λ vs v. put_row v vs) ws xs)
  sorted_in bucket [] ws all also numbered apart up = (up, λ v. (inl, λ u. elim u [ inl a ↦ a | inr a ↦ absurd (none_in_empty v a) ]))
  sorted_in bucket (x ∷ xs) ws all also numbered apart up =
      let is = all x (here x xs) in
      let put = put_own x ws (λ w a. also w a ∙ sym is) in
      let none = none_at (spot_of x) (own ws) (λ r a same. let w = mapped_back own_row ws r a in apart x w.0 (here x xs) w.1 (ap (λ s. s.num) (same ∙ ap (λ p. p.0) (sym w.2)))) in
      let more = sorted_in bucket xs (put_row x ws)
      (λ v a. all v (later x xs v a))
      (λ w a. elim ((put_there x ws w).0 a) [ inl e ↦ subst (λ u. u.bucket ≡ bucket) e is | inr b ↦ also w b ])
      (pairs_tail (λ p q. p.num < q.num) x xs numbered)
      (λ y w a b same. elim ((put_there x ws w).0 b) [
        | inl e ↦ let low = pairs_head (λ p q. p.num < q.num) x xs numbered y a in let n = ap (λ u. u.num) e in omega arith
        | inr d ↦ apart y w (later x xs y a) d same
      ])
      (subst AreAscending (sym put) (placed_order (own_row x) (own ws) up none)) in (
        more.0,
        λ v. (
          λ a. elim ((more.1 v).0 a) [ inl b ↦ elim ((put_there x ws v).0 b) [ inl e ↦ inr ((first_or_rest x xs v).1 (inl e)) | inr d ↦ inl d ] | inr b ↦ inr (later x xs v b) ],
          λ u. (more.1 v).1 (elim u [ inl a ↦ inl ((put_there x ws v).1 (inr a)) | inr a ↦ elim ((first_or_rest x xs v).0 a) [ inl e ↦ inl ((put_there x ws v).1 (inl e)) | inr b ↦ inr b ] ]),
        ),
      )

  -- some of the rows, in order
  all_some : (P : Spot → Type 0) (p : Spot × VersionOf C → Bool) (rows : List (Spot × VersionOf C)) → AllByRecursion P (keys_of rows) → AllByRecursion P (keys_of (filter p rows))
  all_some P p [] all = all
  all_some P p (x ∷ xs) all = ⊎_elim
      (λ (is : p x ≡ true). rw is (all.0, all_some P p xs all.1))
      (λ (no : p x ≡ false). rw no (all_some P p xs all.1))
      (cases_Bool (p x))

  pub some_order : (p : Spot × VersionOf C → Bool) (rows : List (Spot × VersionOf C)) → AreAscending rows → AreAscending (filter p rows)
  unfolding IsStrictlySortedBy
  some_order p [] up = up
  some_order p (x ∷ xs) up = ⊎_elim
      (λ (is : p x ≡ true). rw is (all_some (λ t. listing_cmp x.0 t ≡ Less) p xs up.0, some_order p xs up.1))
      (λ (no : p x ≡ false). rw no (some_order p xs up.1))
      (cases_Bool (p x))

  some_numbered : (p : VersionOf C → Bool) (vs : List (VersionOf C)) → AreNumbered vs → AreNumbered (filter p vs)
  some_numbered p vs up = AllPairs-filter (λ v w. v.num < w.num) p vs up

  pub listed : (M : State C) (rows : List (Spot × VersionOf C)) (bucket : ℕ) → AreNumbered M.versions → AreRowsOf M.versions rows → of_bucket bucket rows ≡ machine_rows M bucket
  listed M rows bucket up are =
      let xs : List (VersionOf C) = filter (λ v. v.bucket == bucket) M.versions in
      let sorted = sorted_in bucket xs [] (λ v a. eqb-true v.bucket bucket ((kept (λ u. u.bucket == bucket) M.versions v).0 a).1) (λ v a. absurd (none_in_empty v a)) (some_numbered (λ v. v.bucket == bucket) M.versions up) (λ x w a b. absurd (none_in_empty w b)) (none_ascend C) in
      let same = one_order_of (filter (λ r. r.0.bucket == bucket) rows) (own (listing_order xs)) (some_order (λ r. r.0.bucket == bucket) rows are.order) sorted.0 (λ r. (
        λ a.
            let old = (kept (λ p. p.0.bucket == bucket) rows r).0 a in
            let own_one = are.own r old.0 in
            let there = (kept (λ u. u.bucket == bucket) M.versions r.1).1 (of_rows M.versions rows r are old.0, ap (λ s. s.bucket == bucket) (sym own_one) ∙ old.1) in
            subst (Contains (own (listing_order xs))) (own_is r own_one) (mapped own_row (listing_order xs) r.1 ((sorted.1 r.1).1 (inr there))),
        λ a.
            let w = mapped_back own_row (listing_order xs) r a in
            elim ((sorted.1 w.0).0 w.1) [
              | inl none ↦ absurd (none_in_empty w.0 none)
              | inr b ↦ let old = (kept (λ u. u.bucket == bucket) M.versions w.0).0 b in subst (Contains (filter (λ p. p.0.bucket == bucket) rows)) w.2 ((kept (λ p. p.0.bucket == bucket) rows (own_row w.0)).1 ((are.same w.0).1 old.0, old.1))
            ],
      )) in
      ap (map (λ r. r.1)) same ∙ own_back (listing_order xs)
