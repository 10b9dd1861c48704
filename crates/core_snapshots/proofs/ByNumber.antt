-- The rows of an index hold the versions of the state.
use Rattle.std.proofs.Common.{◌≡◌, ℕ, ◌↔◌, ◌==◌, nat_lt, nat_le, true, false, List, [], ◌∷◌, ◌++◌, filter, fold, map, append-nil, map-id, append_assoc, subst, sym, ap, ◌∙◌, ⊎_elim, refl, arith}
use Rattle.std.specs.List.{Contains}
use Rattle.std.specs.List.Sorted.{IsPermutation}
use Rattle.std.proofs.lemmas.Bool.{cases_Bool, eq-eqb}
use Rattle.std.proofs.lemmas.Bool.Decides.{nat_tests}
use Rattle.std.proofs.lemmas.List.Sorted.{Contains-permutation, IsPermutation-append_right, IsPermutation-cons, IsPermutation-middle, IsPermutation-refl, IsPermutation-sym, IsPermutation-trans}
use Rattle.b2_types.specs.declared.version.VersionOf.{VersionOf}
use Rattle.b2_model.specs.Lists.{put_by}
use Rattle.b2_model.specs.Rows.{is_before, listing_order, put_row, rows}
use Rattle.b2_model.specs.State.{State}
use Rattle.version_index.specs.declared.spot.Spot.{Spot}
use Rattle.version_index.specs.Rows.{AreAscending}
use Rattle.index_rows.specs.OwnRows.{AreNumbered, AreOwn, AreRowsOf, of_bucket, own_row}
use Rattle.index_rows.proofs.Members.{kept, mapped, mapped_back}
use Rattle.index_rows.proofs.Places.{own_is}
use Rattle.kept_versions.proofs.Kept.{seen}
use Rattle.kept_versions.proofs.Numbered.{all_kept}
use Rattle.core_snapshots.specs.Rows.{AreAllRows}

-- ---- what is put among others moves them only

module _ {X : Type 0} where
  -- the second goes to the front
  passed : (x y : X) (ys zs : List X) → IsPermutation (x ∷ ys) zs → IsPermutation (x ∷ y ∷ ys) (y ∷ zs)
  passed x y ys zs moves = IsPermutation-trans (x ∷ y ∷ ys) (y ∷ x ∷ ys) (y ∷ zs) (IsPermutation-middle (x ∷ []) y ys) (IsPermutation-cons y (x ∷ ys) zs moves)

  put_moves : (num : X → ℕ) (x : X) (xs : List X) → IsPermutation (x ∷ xs) (put_by num x xs)
  put_moves num x [] = IsPermutation-refl (x ∷ [])
  put_moves num x (y ∷ ys) = ⊎_elim
      (λ (first : nat_lt (num x) (num y) ≡ true). rw first (IsPermutation-refl (x ∷ y ∷ ys)))
      (λ (after : nat_lt (num x) (num y) ≡ false). rw after (passed x y ys (put_by num x ys) (put_moves num x ys)))
      (cases_Bool (nat_lt (num x) (num y)))

row_moves : {C : Type 0} (v : VersionOf C) (ws : List (VersionOf C)) → IsPermutation (v ∷ ws) (put_row v ws)
row_moves v [] = IsPermutation-refl (v ∷ [])
row_moves v (w ∷ ws) = ⊎_elim
    (λ (first : is_before v w ≡ true). rw first (IsPermutation-refl (v ∷ w ∷ ws)))
    (λ (after : is_before v w ≡ false). rw after (passed v w ws (put_row v ws) (row_moves v ws)))
    (cases_Bool (is_before v w))

-- each of some items is put among those that are there
module _ {R X : Type 0} (f : R → X) (put : X → List X → List X) (moves : (x : X) (xs : List X) → IsPermutation (x ∷ xs) (put x xs)) where
  gathered : (rs : List R) (done : List X) → IsPermutation (map f rs ++ done) (fold (λ xs r. put (f r) xs) done rs)
  gathered [] done = IsPermutation-refl done
  gathered (r ∷ rs) done =
      IsPermutation-trans (f r ∷ (map f rs ++ done)) (map f rs ++ put (f r) done) (fold (λ xs r. put (f r) xs) (put (f r) done) rs)
      (IsPermutation-trans (f r ∷ (map f rs ++ done)) (map f rs ++ f r ∷ done) (map f rs ++ put (f r) done)
      (IsPermutation-sym (map f rs ++ f r ∷ done) (f r ∷ (map f rs ++ done)) (IsPermutation-middle (map f rs) (f r) done))
      (IsPermutation-append_right (map f rs) (f r ∷ done) (put (f r) done) (moves (f r) done)))
      (gathered rs (put (f r) done))

  -- where there was none before
  all_gathered : (rs : List R) → IsPermutation (map f rs) (fold (λ xs r. put (f r) xs) [] rs)
  all_gathered rs = subst (λ l. IsPermutation l (fold (λ xs r. put (f r) xs) [] rs)) (append-nil (map f rs)) (gathered rs [])

-- ---- the rows of all buckets

module _ {C : Type 0} where
  pub in_order : (vs : List (VersionOf C)) → IsPermutation vs (listing_order vs)
  in_order vs = subst (λ l. IsPermutation l (listing_order vs)) (map-id vs) (all_gathered (λ v. v) put_row row_moves vs)

  -- the version is among those that the machine lists of its bucket where it stands
  among : (M : State C) (v : VersionOf C) → Contains (rows M v.bucket) v ↔ Contains M.versions v
  among M v =
      let own : List (VersionOf C) = filter (λ w. w.bucket == v.bucket) M.versions in
      let test = kept (λ w. w.bucket == v.bucket) M.versions v in (
        λ a. (test.0 (Contains-permutation (listing_order own) own v (IsPermutation-sym own (listing_order own) (in_order own)) a)).0,
        λ a. Contains-permutation own (listing_order own) v (in_order own) (test.1 (a, eq-eqb v.bucket v.bucket refl)),
      )

  are_rows : (M : State C) (all : List (Spot × VersionOf C)) → AreAllRows M all → AreRowsOf M.versions all
  are_rows M all are = record {
    order = are.order;
    own = are.own;
    same = λ v.
        let test = λ (r : Spot × VersionOf C). kept (λ p. p.0.bucket == v.bucket) all r in (
          λ a.
              let there = mapped (λ r. r.1) (filter (λ p. p.0.bucket == v.bucket) all) (own_row v) ((test (own_row v)).1 (a, eq-eqb v.bucket v.bucket refl)) in
              (among M v).0 (subst (λ l. Contains l v) (are.listed v.bucket) there),
          λ a.
              let back = mapped_back (λ r. r.1) (filter (λ p. p.0.bucket == v.bucket) all) v (subst (λ l. Contains l v) (sym (are.listed v.bucket)) ((among M v).1 a)) in
              let r = back.0 in
              let there = ((test r).0 back.1).0 in
              subst (Contains all) (sym (own_is r (are.own r there)) ∙ ap own_row back.2) there,
        );
  }

  -- they hold the versions
  pub all_held : (M : State C) (all : List (Spot × VersionOf C)) → AreAllRows M all → IsPermutation (map (λ r. r.1) all) M.versions
  all_held M all are = subst (IsPermutation (map (λ r. r.1) all)) (seen M.versions all are.numbered (are_rows M all are)) (all_gathered (λ r. r.1) (put_by (λ v. v.num)) (put_moves (λ v. v.num)) all)

  -- ---- the rows from the first number on

  from_none : (all : List (Spot × VersionOf C)) → filter (λ r. nat_le 0 r.0.bucket) all ≡ all
  from_none all = all_kept (λ r. nat_le 0 r.0.bucket) all (λ r a. grind (arith, nat_tests))

  pub are_all : (M : State C) (index found : List (Spot × VersionOf C)) (first : ℕ) → first ≡ 0 → AreAscending index → AreOwn index → AreNumbered M.versions → ((bucket : ℕ) → of_bucket bucket index ≡ rows M bucket)
      → found ≡ filter (λ r. nat_le first r.0.bucket) index → AreAllRows M found
  are_all M index found first zero order own numbered listed is =
      let whole : found ≡ index = is ∙ ap (λ n. filter (λ r. nat_le n r.0.bucket) index) zero ∙ from_none index in
      subst (AreAllRows M) (sym whole) (record { order = order; own = own; numbered = numbered; listed = listed })

  -- ---- a walk over them

  -- these versions came, and those of the rows are left
  pub record IsListed (M : State C) (came : List (VersionOf C)) (left : List (Spot × VersionOf C)) : Type 0 where
    pub all : List (Spot × VersionOf C)
    pub are : AreAllRows M all
    pub both : came ++ map (λ r. r.1) left ≡ map (λ r. r.1) all

  pub begun : (M : State C) (came : List (VersionOf C)) (left all : List (Spot × VersionOf C)) → AreAllRows M all → came ≡ [] → left ≡ all → IsListed M came left
  begun M came left all are none whole = record { all = all; are = are; both = ap (λ l. l ++ map (λ r. r.1) left) none ∙ ap (map (λ r. r.1)) whole }

  pub one_more : (M : State C) (came more : List (VersionOf C)) (left rest : List (Spot × VersionOf C)) (s : Spot) (v : VersionOf C) → left ≡ (s, v) ∷ rest → more ≡ came ++ v ∷ [] → IsListed M came left → IsListed M more rest
  one_more M came more left rest s v steps is listed = record {
    all = listed.all;
    are = listed.are;
    both = ap (λ l. l ++ map (λ r. r.1) rest) is ∙ append_assoc came (v ∷ []) (map (λ r. r.1) rest) ∙ ap (λ l. came ++ map (λ r. r.1) l) (sym steps) ∙ listed.both;
  }

  pub all_came : (M : State C) (came : List (VersionOf C)) (left : List (Spot × VersionOf C)) → left ≡ [] → IsListed M came left → IsPermutation came M.versions
  all_came M came left none listed =
      let is : came ≡ map (λ r. r.1) listed.all = sym (append-nil came) ∙ ap (λ l. came ++ map (λ r. r.1) l) (sym none) ∙ listed.both in
      subst (λ l. IsPermutation l M.versions) (sym is) (all_held M listed.all listed.are)
