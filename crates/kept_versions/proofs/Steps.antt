-- What the calls on versions make of what is kept.
use Rattle.std.proofs.Common.{◌≡◌, ◌≢◌, ℕ, ◌≤◌, ◌==◌, ◌&&◌, Bool, true, false, not, Option, None, Some, List, find, filter, map, subst, sym, ap, ◌∙◌, refl, nat_cmp}
use Rattle.std.specs.Prelude.{option_map}
use Rattle.std.specs.List.{Contains, list_any}
use Rattle.std.specs.Map.{lookup, remove_entry}
use Rattle.std.specs.BTreeMap.{insert_entry, is_at}
use Rattle.std.proofs.lemmas.Bool.{and_parts, eqb-true, eqb-false}
use Rattle.b2_base.specs.declared.numbers.TheConstants.{LAST_VERSION}
use Rattle.b2_types.specs.declared.version.VersionOf.{VersionOf}
use Rattle.b2_model.specs.Lists.{put_by}
use Rattle.version_index.specs.declared.spot.Spot.{Spot}
use Rattle.version_index.specs.Rows.{placed, value_at, without}
use Rattle.index_rows.specs.OwnRows.{AreNumbered, AreRowsOf, by_number, spot_of}
use Rattle.index_rows.proofs.Places.{found, one_number}
use Rattle.listing_pages.specs.Unfinished.{start_spot}
use Rattle.kept_versions.specs.Kept.{AreKept, spot_entry, with_start}
use Rattle.kept_versions.proofs.Numbered.{all_kept, any_none, found_there, none_found, some_is}
use Rattle.kept_versions.proofs.Spots.{spot_none, spots_found}
use Rattle.kept_versions.proofs.Kept.{as_seen, keep_less, keep_more, seen}

-- where none is found, none goes
pub none_gone : {X : Type 0} (p : X → Bool) (xs : List X) → find p xs ≡ None → xs ≡ filter (λ x. not (p x)) xs
none_gone p xs none = sym (all_kept (λ x. not (p x)) xs (λ x a. ap not (none_found p xs x none a)))

module _ {C : Type 0} where
  abbrev at_id : ℕ → ℕ → VersionOf C → Bool
  at_id b k v = v.bucket == b && v.num == k

  -- ---- a version is found

  pub got : (b k : ℕ) (vs : List (VersionOf C)) (rows : List (Spot × VersionOf C)) (s : Spot) → AreRowsOf vs rows → Some s ≡ option_map spot_of (find (λ v. v.bucket == b && v.num == k) vs) → value_at s rows ≡ find (λ v. v.bucket == b && v.num == k) vs
  got b k vs rows s are is = from (find (at_id b k) vs) refl is where
    from : (o : Option (VersionOf C)) → find (at_id b k) vs ≡ o → Some s ≡ option_map spot_of o → value_at s rows ≡ find (at_id b k) vs
    from None one some = cc
    from (Some v) one some = ap (λ t. value_at t rows) (some_is s (spot_of v) some) ∙ found vs rows v are (found_there (at_id b k) vs v one).0 ∙ sym one

  -- ---- a version comes

  pub apart_from : (vs : List (VersionOf C)) (n : ℕ) → list_any (λ v. v.num == n) vs ≡ false → (w : VersionOf C) → Contains vs w → w.num ≢ n
  apart_from vs n none w a = eqb-false w.num n (any_none (λ v. v.num == n) vs w none a)

  pub record Put (v : VersionOf C) (vs : List (VersionOf C)) (rows : List (Spot × VersionOf C)) (spots : List (ℕ × Spot)) (starts : List (Spot × List ℕ)) : Type 0 where
    pub kept : AreKept (by_number rows) rows spots starts
    pub versions : by_number rows ≡ put_by (λ w. w.num) v vs

  pub put_in : (v : VersionOf C) (vs : List (VersionOf C)) (rows : List (Spot × VersionOf C)) (spots : List (ℕ × Spot)) (starts : List (Spot × List ℕ)) → AreKept vs rows spots starts → v.num ≤ LAST_VERSION → list_any (λ w. w.num == v.num) vs ≡ false
      → (s t : Spot) (n : ℕ) → s ≡ spot_of v → t ≡ spot_of v → n ≡ v.num
      → (more : List (Spot × VersionOf C)) (also : List (ℕ × Spot)) (begun : List (Spot × List ℕ)) → more ≡ placed (s, v) rows → also ≡ insert_entry nat_cmp spots n t → begun ≡ with_start v starts → Put v vs more also begun
  put_in v vs rows spots starts are low none s t n s_is t_is n_is more also begun more_is also_is begun_is =
      let all = keep_more vs rows spots starts v are low (apart_from vs v.num none) in
      let one : AreKept (put_by (λ w. w.num) v vs) more also begun =
      subst (λ (x : List (Spot × VersionOf C)). AreKept (put_by (λ w. w.num) v vs) x also begun) (ap (λ (x : Spot). placed (x, v) rows) (sym s_is) ∙ sym more_is)
      (subst (λ (x : List (ℕ × Spot)). AreKept (put_by (λ w. w.num) v vs) (placed (spot_of v, v) rows) x begun) (ap (λ (x : Spot). insert_entry nat_cmp spots v.num x) (sym t_is) ∙ ap (λ m. insert_entry nat_cmp spots m t) (sym n_is) ∙ sym also_is)
      (subst (λ (x : List (Spot × List ℕ)). AreKept (put_by (λ w. w.num) v vs) (placed (spot_of v, v) rows) (insert_entry nat_cmp spots v.num (spot_of v)) x) (sym begun_is) all)) in
      record {
        kept = as_seen (put_by (λ w. w.num) v vs) more also begun one;
        versions = seen (put_by (λ w. w.num) v vs) more one.numbered one.are_rows;
      }

  -- ---- a version goes

  pub record Took (b k : ℕ) (vs : List (VersionOf C)) (rows : List (Spot × VersionOf C)) (spots : List (ℕ × Spot)) (starts : List (Spot × List ℕ)) (o : Option (VersionOf C)) : Type 0 where
    pub kept : AreKept (by_number rows) rows spots starts
    pub value : o ≡ find (λ v. v.bucket == b && v.num == k) vs
    pub left : by_number rows ≡ filter (λ v. not (v.bucket == b && v.num == k)) vs

  took_one : (b k : ℕ) (vs : List (VersionOf C)) (rows : List (Spot × VersionOf C)) (spots : List (ℕ × Spot)) (starts : List (Spot × List ℕ)) → AreKept vs rows spots starts
      → (v : VersionOf C) → find (at_id b k) vs ≡ Some v → v.bucket ≡ b → v.num ≡ k → (s : Spot) → spot_of v ≡ s
      → (less : List (Spot × VersionOf C)) (also : List (ℕ × Spot)) (begun : List (Spot × List ℕ)) (o : Option (VersionOf C)) → less ≡ without s rows → also ≡ remove_entry (is_at (nat_cmp k)) spots → begun ≡ without (start_spot b k) starts → o ≡ value_at s rows
      → Took b k vs less also begun o
  took_one b k vs rows spots starts are v one bucket num s s_is less also begun o less_is also_is begun_is o_is =
      let there = (found_there (at_id b k) vs v one).0 in
      let all = keep_less vs rows spots starts v are there in
      let rest : List (VersionOf C) = filter (λ w. not (at_id v.bucket v.num w)) vs in
      let left : AreKept rest less also begun =
      subst (λ (x : List (Spot × VersionOf C)). AreKept rest x also begun) (ap (λ (x : Spot). without x rows) s_is ∙ sym less_is)
      (subst (λ (x : List (ℕ × Spot)). AreKept rest (without (spot_of v) rows) x begun) (ap (λ m. remove_entry (is_at (nat_cmp m)) spots) num ∙ sym also_is)
      (subst (λ (x : List (Spot × List ℕ)). AreKept rest (without (spot_of v) rows) (remove_entry (is_at (nat_cmp v.num)) spots) x) (ap (λ m. without (start_spot v.bucket m) starts) num ∙ ap (λ m. without (start_spot m k) starts) bucket ∙ sym begun_is) all)) in
      record {
        kept = as_seen rest less also begun left;
        value = o_is ∙ ap (λ t. value_at t rows) (sym s_is) ∙ found vs rows v are.are_rows there ∙ sym one;
        left = seen rest less left.numbered left.are_rows ∙ ap (λ m. filter (λ w. not (at_id v.bucket m w)) vs) num ∙ ap (λ m. filter (λ w. not (at_id m k w)) vs) bucket;
      }

  -- the version of this bucket and number, and where it stands
  record IsAt (b k : ℕ) (vs : List (VersionOf C)) (s : Spot) : Type 0 where
    pub version : VersionOf C
    pub one : find (λ v. v.bucket == b && v.num == k) vs ≡ Some version
    pub bucket : version.bucket ≡ b
    pub num : version.num ≡ k
    pub spot : spot_of version ≡ s

  is_at_spot : (b k : ℕ) (vs : List (VersionOf C)) (s t : Spot) (p q : Option (VersionOf C)) → AreNumbered vs → find (at_id b k) vs ≡ p → find (λ v. v.num == k) vs ≡ q → Some t ≡ option_map spot_of p → option_map spot_of q ≡ Some s → IsAt b k vs s
  is_at_spot b k vs s t None q up one two there found_it = cc
  is_at_spot b k vs s t (Some v) None up one two there found_it = cc
  is_at_spot b k vs s t (Some v) (Some w) up one two there found_it =
      let a = found_there (at_id b k) vs v one in
      let d = found_there (λ v. v.num == k) vs w two in
      let parts = and_parts (v.bucket == b) (v.num == k) a.1 in
      let num = eqb-true v.num k parts.1 in
      let same : v ≡ w = one_number vs v w up a.0 d.0 (num ∙ sym (eqb-true w.num k d.1)) in
      record { version = v; one = one; bucket = eqb-true v.bucket b parts.0; num = num; spot = ap spot_of same ∙ some_is (spot_of w) s found_it }

  pub took : (b k : ℕ) (vs : List (VersionOf C)) (rows : List (Spot × VersionOf C)) (spots : List (ℕ × Spot)) (starts : List (Spot × List ℕ)) → AreKept vs rows spots starts
      → (s t : Spot) → lookup (is_at (nat_cmp k)) spots ≡ Some s → Some t ≡ option_map spot_of (find (λ v. v.bucket == b && v.num == k) vs)
      → (less : List (Spot × VersionOf C)) (also : List (ℕ × Spot)) (begun : List (Spot × List ℕ)) (o : Option (VersionOf C)) → less ≡ without s rows → also ≡ remove_entry (is_at (nat_cmp k)) spots → begun ≡ without (start_spot b k) starts → o ≡ value_at s rows
      → Took b k vs less also begun o
  took b k vs rows spots starts are s t is some less also begun o less_is also_is begun_is o_is =
      let at = is_at_spot b k vs s t (find (at_id b k) vs) (find (λ v. v.num == k) vs) are.numbered refl refl some (sym (spots_found k vs) ∙ ap (lookup (is_at (nat_cmp k))) (sym are.are_spots) ∙ is) in
      took_one b k vs rows spots starts are at.version at.one at.bucket at.num s at.spot less also begun o less_is also_is begun_is o_is

  -- a number that is not there has no version
  pub not_both : (b k : ℕ) (vs : List (VersionOf C)) (spots : List (ℕ × Spot)) (t : Spot) → spots ≡ map spot_entry vs → lookup (is_at (nat_cmp k)) spots ≡ None → Some t ≡ option_map spot_of (find (λ v. v.bucket == b && v.num == k) vs) → ⊥
  not_both b k vs spots t are none some = let gone = spot_none b k vs (ap (lookup (is_at (nat_cmp k))) (sym are) ∙ none) in let both : Some t ≡ None = some ∙ sym gone in cc
