-- Where the version of each number stands.
use Rattle.std.proofs.Common.{◌≡◌, ℕ, ◌<◌, ◌==◌, ◌&&◌, nat_lt, Bool, true, false, not, Option, None, Some, List, [], ◌∷◌, find, filter, map, subst, sym, ap, ◌∙◌, ⊎_elim, refl, arith, is_eq, is_some, nat_cmp, Less, Equal, Greater}
use Rattle.std.specs.Prelude.{option_map}
use Rattle.std.specs.declared.cmp.Ordering.{Ordering}
use Rattle.std.specs.List.{Contains, list_any}
use Rattle.std.specs.Map.{lookup, remove_entry}
use Rattle.std.specs.BTreeMap.{insert_entry, is_at}
use Rattle.std.proofs.lemmas.Bool.{and_left, and_right, cases_Bool, false≢true}
use Rattle.std.proofs.lemmas.Bool.Decides.{nat_tests}
use Rattle.std.proofs.lemmas.Cmp.{ranked}
use Rattle.b2_types.specs.declared.version.VersionOf.{VersionOf}
use Rattle.b2_model.specs.Lists.{put_by}
use Rattle.version_index.specs.declared.spot.Spot.{Spot}
use Rattle.index_rows.specs.OwnRows.{AreNumbered, spot_of}
use Rattle.index_rows.proofs.Members.{here, later, pairs_head, pairs_tail}
use Rattle.index_rows.proofs.Places.{one_number}
use Rattle.numbered_items.proofs.Entries.{less_from, same_from, same_test}
use Rattle.kept_versions.specs.Kept.{spot_entry}
use Rattle.kept_versions.proofs.Numbered.{all_kept, find_none, found_there, none_found, some_is}

more_from : (m n : ℕ) → nat_cmp m n ≡ Greater → n < m
more_from m n h = rw h at (ranked m n (nat_cmp m n) refl)

pub any_found : {X : Type 0} (p : X → Bool) (xs : List X) → is_some (find p xs) ≡ list_any p xs
any_found p [] = refl
any_found p (x ∷ xs) = ⊎_elim (λ (is : p x ≡ true). rw is refl) (λ (no : p x ≡ false). rw no (any_found p xs)) (cases_Bool (p x))

pub some_mapped : {X Y : Type 0} (f : X → Y) (o : Option X) → is_some (option_map f o) ≡ is_some o
some_mapped f None = refl
some_mapped f (Some x) = refl

module _ {C : Type 0} where
  -- ---- a number comes
  spot_place : (o : Ordering) (v w : VersionOf C) (ws : List (VersionOf C)) → nat_cmp v.num w.num ≡ o → (w.num == v.num) ≡ false
      → insert_entry nat_cmp (map spot_entry ws) v.num (spot_of v) ≡ map spot_entry (put_by (λ u. u.num) v ws)
      → insert_entry nat_cmp (map spot_entry (w ∷ ws)) v.num (spot_of v) ≡ map spot_entry (put_by (λ u. u.num) v (w ∷ ws))
  spot_place Less v w ws is other rest =
      let low = less_from v.num w.num is in
      let first : nat_lt v.num w.num ≡ true = grind (arith, nat_tests) in
      rw (is, first) refl
  spot_place Equal v w ws is other rest = let same = same_from v.num w.num is in let one : (w.num == v.num) ≡ true = grind (arith, nat_tests) in absurd (false≢true (sym other ∙ one))
  spot_place Greater v w ws is other rest =
      let high = more_from v.num w.num is in
      let after : nat_lt v.num w.num ≡ false = grind (arith, nat_tests) in
      rw (is, after) (ap (λ l. spot_entry w ∷ l) rest)

  pub spots_put : (v : VersionOf C) (vs : List (VersionOf C)) → ((w : VersionOf C) → Contains vs w → (w.num == v.num) ≡ false) → insert_entry nat_cmp (map spot_entry vs) v.num (spot_of v) ≡ map spot_entry (put_by (λ u. u.num) v vs)
  spots_put v [] free = refl
  spots_put v (w ∷ ws) free = spot_place (nat_cmp v.num w.num) v w ws refl (free w (here w ws)) (spots_put v ws (λ u a. free u (later w ws u a)))

  -- ---- a number is found
  pub spots_found : (k : ℕ) (vs : List (VersionOf C)) → lookup (is_at (nat_cmp k)) (map spot_entry vs) ≡ option_map spot_of (find (λ v. v.num == k) vs)
  spots_found k [] = refl
  spots_found k (v ∷ vs) = ⊎_elim
      (λ (is : (v.num == k) ≡ true). rw (is, same_test k v.num ∙ is) refl)
      (λ (other : (v.num == k) ≡ false). rw (other, same_test k v.num ∙ other) (spots_found k vs))
      (cases_Bool (v.num == k))

  -- ---- a number goes
  above : (k : ℕ) (v w : VersionOf C) → (v.num == k) ≡ true → v.num < w.num → not (w.num == k) ≡ true
  above k v w is high = let other : (w.num == k) ≡ false = grind (arith, nat_tests) in ap not other

  pub spots_removed : (k : ℕ) (vs : List (VersionOf C)) → AreNumbered vs → remove_entry (is_at (nat_cmp k)) (map spot_entry vs) ≡ map spot_entry (filter (λ v. not (v.num == k)) vs)
  spots_removed k [] up = refl
  spots_removed k (v ∷ vs) up = ⊎_elim
      (λ (is : (v.num == k) ≡ true). rw (is, same_test k v.num ∙ is) (ap (map spot_entry) (sym (all_kept (λ w. not (w.num == k)) vs (λ w a. above k v w is (pairs_head (λ u x. u.num < x.num) v vs up w a))))))
      (λ (other : (v.num == k) ≡ false). rw (other, same_test k v.num ∙ other) (ap (λ l. spot_entry v ∷ l) (spots_removed k vs (pairs_tail (λ u x. u.num < x.num) v vs up))))
      (cases_Bool (v.num == k))

  -- ---- a version by its bucket and number
  pub in_bucket : (b k : ℕ) (vs : List (VersionOf C)) (v : VersionOf C) → find (λ w. w.num == k) vs ≡ Some v → (v.bucket == b) ≡ true → find (λ w. w.bucket == b && w.num == k) vs ≡ Some v
  in_bucket b k [] v found is = cc
  in_bucket b k (w ∷ ws) v found is = ⊎_elim
      (λ (one : (w.num == k) ≡ true). let same = some_is w v (rw one at found) in let bucket : (w.bucket == b) ≡ true = subst (λ u. (u.bucket == b) ≡ true) (sym same) is in rw (bucket, one) (ap Some same))
      (λ (other : (w.num == k) ≡ false). rw (and_right (w.bucket == b) (w.num == k) other) (in_bucket b k ws v (rw other at found) is))
      (cases_Bool (w.num == k))

  pub other_bucket : (b k : ℕ) (vs : List (VersionOf C)) (v : VersionOf C) → AreNumbered vs → find (λ w. w.num == k) vs ≡ Some v → (v.bucket == b) ≡ false → find (λ w. w.bucket == b && w.num == k) vs ≡ None
  other_bucket b k vs v up found other =
      let there = found_there (λ w. w.num == k) vs v found in
      find_none (λ w. w.bucket == b && w.num == k) vs (λ w a. ⊎_elim
      (λ (one : (w.num == k) ≡ true).
      let is = there.1 in
      let nums : w.num ≡ v.num = grind (arith, nat_tests) in
      let same = one_number vs w v up a there.0 nums in
      and_left (w.bucket == b) (w.num == k) (subst (λ u. (u.bucket == b) ≡ false) (sym same) other))
      (λ (no : (w.num == k) ≡ false). and_right (w.bucket == b) (w.num == k) no)
      (cases_Bool (w.num == k)))

  pub no_number : (b k : ℕ) (vs : List (VersionOf C)) → find (λ w. w.num == k) vs ≡ None → find (λ w. w.bucket == b && w.num == k) vs ≡ None
  no_number b k vs none = find_none (λ w. w.bucket == b && w.num == k) vs (λ w a. and_right (w.bucket == b) (w.num == k) (none_found (λ w. w.num == k) vs w none a))

  -- ---- where it stands
  pub spot_some : (b k : ℕ) (vs : List (VersionOf C)) (s : Spot) → lookup (is_at (nat_cmp k)) (map spot_entry vs) ≡ Some s → (s.bucket == b) ≡ true → Some s ≡ option_map spot_of (find (λ v. v.bucket == b && v.num == k) vs)
  spot_some b k vs s is bucket = from (find (λ v. v.num == k) vs) refl (sym (spots_found k vs) ∙ is) where
    from : (o : Option (VersionOf C)) → find (λ v. v.num == k) vs ≡ o → option_map spot_of o ≡ Some s → Some s ≡ option_map spot_of (find (λ v. v.bucket == b && v.num == k) vs)
    from None found one = cc
    from (Some v) found one =
        let same = some_is (spot_of v) s one in
        let here : (v.bucket == b) ≡ true = ap (λ t. t.bucket == b) same ∙ bucket in
        sym one ∙ ap (option_map spot_of) (sym (in_bucket b k vs v found here))

  pub spot_other : (b k : ℕ) (vs : List (VersionOf C)) (s : Spot) → AreNumbered vs → lookup (is_at (nat_cmp k)) (map spot_entry vs) ≡ Some s → (s.bucket == b) ≡ false → None ≡ option_map spot_of (find (λ v. v.bucket == b && v.num == k) vs)
  spot_other b k vs s up is bucket = from (find (λ v. v.num == k) vs) refl (sym (spots_found k vs) ∙ is) where
    from : (o : Option (VersionOf C)) → find (λ v. v.num == k) vs ≡ o → option_map spot_of o ≡ Some s → None ≡ option_map spot_of (find (λ v. v.bucket == b && v.num == k) vs)
    from None found one = cc
    from (Some v) found one =
        let same = some_is (spot_of v) s one in
        let far : (v.bucket == b) ≡ false = ap (λ t. t.bucket == b) same ∙ bucket in
        ap (option_map spot_of) (sym (other_bucket b k vs v up found far))

  pub spot_none : (b k : ℕ) (vs : List (VersionOf C)) → lookup (is_at (nat_cmp k)) (map spot_entry vs) ≡ None → None ≡ option_map spot_of (find (λ v. v.bucket == b && v.num == k) vs)
  spot_none b k vs is = from (find (λ v. v.num == k) vs) refl (sym (spots_found k vs) ∙ is) where
    from : (o : Option (VersionOf C)) → find (λ v. v.num == k) vs ≡ o → option_map spot_of o ≡ None → None ≡ option_map spot_of (find (λ v. v.bucket == b && v.num == k) vs)
    from None found one = ap (option_map spot_of) (sym (no_number b k vs found))
    from (Some v) found one = cc

  pub none_mapped : (o : Option (VersionOf C)) → None ≡ option_map spot_of o → o ≡ None
  none_mapped None is = refl
  none_mapped (Some v) is = cc

  pub spot_any : (k : ℕ) (vs : List (VersionOf C)) → is_some (lookup (is_at (nat_cmp k)) (map spot_entry vs)) ≡ list_any (λ v. v.num == k) vs
  spot_any k vs = ap is_some (spots_found k vs) ∙ some_mapped spot_of (find (λ v. v.num == k) vs) ∙ any_found (λ v. v.num == k) vs
