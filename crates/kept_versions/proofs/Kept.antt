-- Versions that come and go, in all that is kept of them.
use Rattle.std.proofs.Common.{◌≡◌, ◌≢◌, ℕ, ◌<◌, ◌≤◌, ◌↔◌, ◌==◌, Bool, true, false, not, None, Some, List, [], ◌∷◌, get_or, length, find, filter, map, subst, sym, ap, ◌∙◌, inl, inr, ⊎_elim, refl, arith, is_eq, nat_cmp, Less}
use Rattle.std.specs.List.{All, AllByRecursion, AllPairs, Contains, list_any}
use Rattle.std.specs.List.Sorted.{IsStrictlySortedBy}
use Rattle.std.specs.Map.{keys_of, remove_entry}
use Rattle.std.specs.BTreeMap.{insert_entry, is_at}
use Rattle.std.proofs.lemmas.Bool.{cases_Bool, eqb-true, eqb-false, false≢true}
use Rattle.std.proofs.lemmas.Bool.Decides.{nat_tests}
use Rattle.std.proofs.lemmas.List.{get_or_default}
use Rattle.std.proofs.lemmas.List.Kept.{AllPairs-cons, AllPairs-filter}
use Rattle.std.proofs.lemmas.Map.Keys.{sorted_head, sorted_tail}
use Rattle.b2_base.specs.declared.numbers.TheConstants.{LAST_VERSION}
use Rattle.b2_types.specs.declared.version.VersionOf.{VersionOf}
use Rattle.b2_model.specs.Lists.{put_by}
use Rattle.b2_model.specs.Plan.{id_of}
use Rattle.b2_model.specs.Version.{is_it}
use Rattle.version_index.specs.declared.spot.Spot.{Spot}
use Rattle.version_index.specs.Rows.{AreAscending, listing_cmp, placed, value_at, without}
use Rattle.version_index.proofs.Members.{itself}
use Rattle.index_rows.specs.OwnRows.{AreNumbered, AreRowsOf, HaveOwnNumbers, by_number, own_row, spot_of}
use Rattle.index_rows.proofs.Members.{first_or_rest, here, kept, later, none_in_empty}
use Rattle.index_rows.proofs.Places.{added, empty_rows, free, found, made, numbered, of_rows, one_number, put_ascends, put_members, removed}
use Rattle.listing_pages.specs.Unfinished.{start_spot}
use Rattle.kept_versions.specs.Kept.{AreKept, AreStartRows, IsStartAmong, spot_entry, with_start}
use Rattle.kept_versions.proofs.Numbered.{one_list, same_kept}
use Rattle.kept_versions.proofs.Spots.{spots_put, spots_removed}
use Rattle.kept_versions.proofs.Starts.{it_from, it_parts, starts_less, starts_put}

none_ascend : (V : Type 0) → AreAscending {V = V} []
unfolding IsStrictlySortedBy
none_ascend V = tt

all_of : {X : Type 0} (P : X → Type 0) (xs : List X) → ((y : X) → Contains xs y → P y) → All P xs
all_of P xs each k d within = each (get_or xs k d) (k, within, sym (get_or_default xs k d (get_or xs k d) within))

module _ {C : Type 0} where
  -- ---- the view is the versions

  of_keys : (P : Spot → Type 0) (rows : List (Spot × VersionOf C)) (r : Spot × VersionOf C) → AllByRecursion P (keys_of rows) → Contains rows r → P r.0
  of_keys P [] r all a = absurd (none_in_empty r a)
  of_keys P (x ∷ xs) r all a = elim ((first_or_rest x xs r).0 a) [ inl is ↦ subst (λ y. P y.0) is all.0 | inr b ↦ of_keys P xs r all.1 b ]

  own_numbers : (vs : List (VersionOf C)) (rows : List (Spot × VersionOf C)) → AreNumbered vs → AreAscending rows → ((r : Spot × VersionOf C) → Contains rows r → (r.0 ≡ spot_of r.1) × Contains vs r.1) → HaveOwnNumbers rows
  own_numbers vs [] up order each = λ i j d lt within. absurd (omega arith)
  own_numbers vs (r ∷ rs) up order each =
      AllPairs-cons (λ p q. p.1.num ≢ q.1.num) r rs
      (all_of (λ q. r.1.num ≢ q.1.num) rs (λ q a same.
      let one = each r (here r rs) in
      let two = each q (later r rs q a) in
      let version = one_number vs r.1 q.1 up one.1 two.1 same in
      let spots : r.0 ≡ q.0 = one.0 ∙ ap spot_of version ∙ sym two.0 in
      let low = of_keys (λ t. listing_cmp r.0 t ≡ Less) rs q (sorted_head listing_cmp r.0 (keys_of rs) order) a in
      false≢true (sym (ap is_eq low) ∙ itself r.0 q.0 spots)))
      (own_numbers vs rs up (sorted_tail listing_cmp r.0 (keys_of rs) order) (λ q a. each q (later r rs q a)))

  pub seen : (vs : List (VersionOf C)) (rows : List (Spot × VersionOf C)) → AreNumbered vs → AreRowsOf vs rows → by_number rows ≡ vs
  seen vs rows up are =
      let own = own_numbers vs rows up are.order (λ r a. (are.own r a, of_rows vs rows r are a)) in
      let also = made rows are.order are.own in
      one_list (by_number rows) vs (numbered rows own) up (λ v. (λ a. (are.same v).0 ((also.same v).1 a), λ a. (also.same v).0 ((are.same v).1 a)))

  -- what is kept of these versions is kept of the view
  pub as_seen : (vs : List (VersionOf C)) (rows : List (Spot × VersionOf C)) (spots : List (ℕ × Spot)) (starts : List (Spot × List ℕ)) → AreKept vs rows spots starts → AreKept (by_number rows) rows spots starts
  as_seen vs rows spots starts are = subst (λ xs. AreKept xs rows spots starts) (sym (seen vs rows are.numbered are.are_rows)) are

  -- ---- none, one more, one less

  pub keep_none : AreKept {C = C} [] [] [] []
  keep_none = record {
    numbered = λ i j d lt within. absurd (omega arith);
    in_range = λ v a. absurd (none_in_empty v a);
    are_rows = empty_rows;
    are_spots = refl;
    are_starts = record {
      order = none_ascend (List ℕ);
      same = λ row. (λ a. absurd (none_in_empty row a), λ s. absurd (none_in_empty s.version s.there));
    };
  }

  pub keep_more : (vs : List (VersionOf C)) (rows : List (Spot × VersionOf C)) (spots : List (ℕ × Spot)) (starts : List (Spot × List ℕ)) (v : VersionOf C) → AreKept vs rows spots starts → v.num ≤ LAST_VERSION
      → ((w : VersionOf C) → Contains vs w → w.num ≢ v.num) → AreKept (put_by (λ w. w.num) v vs) (placed (own_row v) rows) (insert_entry nat_cmp spots v.num (spot_of v)) (with_start v starts)
  keep_more vs rows spots starts v are low apart = record {
    numbered = put_ascends (λ w. w.num) v vs are.numbered (λ w a same. apart w a (sym same));
    in_range = λ w a. elim ((put_members (λ u. u.num) v vs w).0 a) [ inl is ↦ subst (λ u. u.num ≤ LAST_VERSION) is low | inr b ↦ are.in_range w b ];
    are_rows = added vs rows v are.are_rows (free vs rows (spot_of v) are.are_rows apart);
    are_spots = ap (λ l. insert_entry nat_cmp l v.num (spot_of v)) are.are_spots ∙ spots_put v vs (λ w a. other w (apart w a));
    are_starts = starts_put vs starts v are.are_starts are.in_range low apart;
  } where
    other : (w : VersionOf C) → w.num ≢ v.num → (w.num == v.num) ≡ false
    other w far = ⊎_elim (λ (is : (w.num == v.num) ≡ true). absurd (far (eqb-true w.num v.num is))) (λ (is : (w.num == v.num) ≡ false). is) (cases_Bool (w.num == v.num))

  -- of the versions, the one of this number is the one of this bucket and number
  pub same_gone : (vs : List (VersionOf C)) (v : VersionOf C) → AreNumbered vs → Contains vs v → filter (λ w. not (w.num == v.num)) vs ≡ filter (λ w. not (is_it (id_of v) w)) vs
  same_gone vs v up a = same_kept (λ w. not (w.num == v.num)) (λ w. not (is_it (id_of v) w)) vs (λ w b. ⊎_elim
      (λ (is : (w.num == v.num) ≡ true). let same = one_number vs w v up b a (eqb-true w.num v.num is) in ap not (is ∙ sym (it_from v w (ap (λ u. u.bucket) same) (ap (λ u. u.num) same))))
      (λ (far : (w.num == v.num) ≡ false). ap not (far ∙ sym (not_it w far)))
      (cases_Bool (w.num == v.num)))
    where
      not_it : (w : VersionOf C) → (w.num == v.num) ≡ false → is_it (id_of v) w ≡ false
      not_it w far = ⊎_elim (λ (is : is_it (id_of v) w ≡ true). absurd (eqb-false w.num v.num far (it_parts v w is).1)) (λ (is : is_it (id_of v) w ≡ false). is) (cases_Bool (is_it (id_of v) w))

  pub keep_less : (vs : List (VersionOf C)) (rows : List (Spot × VersionOf C)) (spots : List (ℕ × Spot)) (starts : List (Spot × List ℕ)) (v : VersionOf C) → AreKept vs rows spots starts → Contains vs v
      → AreKept (filter (λ w. not (is_it (id_of v) w)) vs) (without (spot_of v) rows) (remove_entry (is_at (nat_cmp v.num)) spots) (without (start_spot v.bucket v.num) starts)
  keep_less vs rows spots starts v are a = record {
    numbered = AllPairs-filter (λ x y. x.num < y.num) (λ w. not (is_it (id_of v) w)) vs are.numbered;
    in_range = λ w b. are.in_range w ((kept (λ u. not (is_it (id_of v) u)) vs w).0 b).0;
    are_rows = removed vs rows v are.numbered are.are_rows a;
    are_spots = ap (remove_entry (is_at (nat_cmp v.num))) are.are_spots ∙ spots_removed v.num vs are.numbered ∙ ap (map spot_entry) (same_gone vs v are.numbered a);
    are_starts = starts_less vs starts v are.are_starts are.in_range a;
  }
