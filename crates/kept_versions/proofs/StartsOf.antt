-- The starts of a bucket, as a listing of unfinished files wants them.
use Rattle.std.proofs.Common.{◌≡◌, ℕ, ◌<◌, ◌≤◌, ◌-◌, ◌==◌, ◌&&◌, Bool, true, false, List, [], ◌∷◌, filter, map, subst, sym, ap, ◌∙◌, ⊎_elim, refl, arith, Less, Equal, nat_cmp}
use Rattle.std.specs.Ordering.{ordering_then}
use Rattle.std.specs.List.{AllByRecursion, Contains}
use Rattle.std.specs.List.Sorted.{IsStrictlySortedBy}
use Rattle.std.specs.Map.{keys_of}
use Rattle.std.specs.Cmp.{nat_cmp_is, nat_cmp_total, tied_itself}
use Rattle.std.proofs.lemmas.Bool.{and_from, and_parts, cases_Bool, eqb-true}
use Rattle.std.proofs.lemmas.List.Kept.{AllPairs-filter}
use Rattle.b2_base.specs.declared.numbers.TheConstants.{LAST_VERSION}
use Rattle.b2_types.specs.declared.version.VersionOf.{VersionOf}
use Rattle.b2_model.specs.Kinds.{is_start}
use Rattle.version_index.specs.declared.spot.Spot.{Spot}
use Rattle.version_index.specs.Rows.{AreAscending, listing_cmp}
use Rattle.version_index.proofs.Members.{one_order_of}
use Rattle.index_rows.specs.OwnRows.{AreNumbered}
use Rattle.index_rows.proofs.Members.{here, kept, later, mapped, mapped_back, pairs_head, pairs_tail}
use Rattle.listing_pages.specs.Unfinished.{AreStarts, AreStartsOf, start_row, start_spot, version_row}
use Rattle.kept_versions.specs.Kept.{AreStartRows, start_entry}

-- ---- some of the rows, in order

all_some : (P : Spot → Type 0) (p : Spot × List ℕ → Bool) (rows : List (Spot × List ℕ)) → AllByRecursion P (keys_of rows) → AllByRecursion P (keys_of (filter p rows))
all_some P p [] all = all
all_some P p (x ∷ xs) all = ⊎_elim
    (λ (is : p x ≡ true). rw is (all.0, all_some P p xs all.1))
    (λ (no : p x ≡ false). rw no (all_some P p xs all.1))
    (cases_Bool (p x))

some_order : (p : Spot × List ℕ → Bool) (rows : List (Spot × List ℕ)) → AreAscending rows → AreAscending (filter p rows)
unfolding IsStrictlySortedBy
some_order p [] up = up
some_order p (x ∷ xs) up = ⊎_elim
    (λ (is : p x ≡ true). rw is (all_some (λ t. listing_cmp x.0 t ≡ Less) p xs up.0, some_order p xs up.1))
    (λ (no : p x ≡ false). rw no (some_order p xs up.1))
    (cases_Bool (p x))

-- no row has a name
pub no_names : {C : Type 0} (vs : List (VersionOf C)) (starts : List (Spot × List ℕ)) → AreStartRows vs starts → AreStarts starts
no_names vs starts are = each starts (λ r a. ap (λ p. p.0.name) (sym ((are.same r).0 a).row_is))
  where
    each : (rows : List (Spot × List ℕ)) → ((r : Spot × List ℕ) → Contains rows r → r.0.name ≡ []) → AreStarts rows
    each [] none = tt
    each (r ∷ rs) none = (none r (here r rs), each rs (λ s a. none s (later r rs s a)))

module _ {C : Type 0} where
  abbrev InRange : List (VersionOf C) → Type 0
  InRange vs = (v : VersionOf C) → Contains vs v → v.num ≤ LAST_VERSION

  start_before : (v w : VersionOf C) → v.bucket ≡ w.bucket → v.num < w.num → w.num ≤ LAST_VERSION → listing_cmp (start_spot v.bucket v.num) (start_spot w.bucket w.num) ≡ Less
  start_before v w same low last =
      let tied : nat_cmp v.bucket w.bucket ≡ Equal = subst (λ n. nat_cmp v.bucket n ≡ Equal) same (tied_itself nat_cmp_total v.bucket) in
      let down : LAST_VERSION - w.num < LAST_VERSION - v.num = omega (arith, low, last) in
      ap (λ o. ordering_then o (nat_cmp (LAST_VERSION - w.num) (LAST_VERSION - v.num))) tied ∙ sym (nat_cmp_is (LAST_VERSION - w.num) (LAST_VERSION - v.num) Less down)

  before_each : (v : VersionOf C) (ws : List (VersionOf C)) → ((w : VersionOf C) → Contains ws w → listing_cmp (start_spot v.bucket v.num) (start_spot w.bucket w.num) ≡ Less)
      → AllByRecursion (λ t. listing_cmp (start_spot v.bucket v.num) t ≡ Less) (keys_of (map start_entry ws))
  before_each v [] each = tt
  before_each v (w ∷ ws) each = (each w (here w ws), before_each v ws (λ u a. each u (later w ws u a)))

  entries_ascend : (bucket : ℕ) (vs : List (VersionOf C)) → ((v : VersionOf C) → Contains vs v → v.bucket ≡ bucket) → InRange vs → AreNumbered vs → AreAscending (map start_entry vs)
  unfolding IsStrictlySortedBy
  entries_ascend bucket [] of in_range up = tt
  entries_ascend bucket (v ∷ vs) of in_range up = (
    before_each v vs (λ w a. start_before v w (of v (here v vs) ∙ sym (of w (later v vs w a))) (pairs_head (λ x y. x.num < y.num) v vs up w a) (in_range w (later v vs w a))),
    entries_ascend bucket vs (λ w a. of w (later v vs w a)) (λ w a. in_range w (later v vs w a)) (pairs_tail (λ x y. x.num < y.num) v vs up),
  )

  entries_back : (vs : List (VersionOf C)) → InRange vs → map start_row (map (λ r. (r.0.num, r.1)) (map start_entry vs)) ≡ map version_row vs
  entries_back [] in_range = refl
  entries_back (v ∷ vs) in_range =
      let low = in_range v (here v vs) in
      let num : LAST_VERSION - (LAST_VERSION - v.num) ≡ v.num = omega (arith, low) in
      rw (num, entries_back vs (λ w a. in_range w (later v vs w a))) refl

  abbrev is_start_in : ℕ → VersionOf C → Bool
  is_start_in bucket v = v.bucket == bucket && is_start v.action

  pub starts_of : (vs : List (VersionOf C)) (starts : List (Spot × List ℕ)) (bucket : ℕ) → AreNumbered vs → InRange vs → AreStartRows vs starts → AreStartsOf vs bucket starts
  starts_of vs starts bucket up in_range are =
      let own : List (VersionOf C) = filter (is_start_in bucket) vs in
      let parts = λ (v : VersionOf C) (a : Contains own v). (kept (is_start_in bucket) vs v).0 a in
      let low = λ (v : VersionOf C) (a : Contains own v). in_range v (parts v a).0 in
      let of = λ (v : VersionOf C) (a : Contains own v). eqb-true v.bucket bucket (and_parts (v.bucket == bucket) (is_start v.action) (parts v a).1).0 in
      let same = one_order_of (filter (λ r. r.0.bucket == bucket) starts) (map start_entry own) (some_order (λ r. r.0.bucket == bucket) starts are.order)
      (entries_ascend bucket own of low (AllPairs-filter (λ x y. x.num < y.num) (is_start_in bucket) vs up)) (λ r. (
        λ a.
            let old = (kept (λ p. p.0.bucket == bucket) starts r).0 a in
            let s = (are.same r).0 old.0 in
            let both = and_from (s.version.bucket == bucket) (is_start s.version.action) (ap (λ p. p.0.bucket == bucket) s.row_is ∙ old.1) s.start in
            subst (Contains (map start_entry own)) s.row_is (mapped start_entry own s.version ((kept (is_start_in bucket) vs s.version).1 (s.there, both))),
        λ a.
            let w = mapped_back start_entry own r a in
            let old = parts w.0 w.1 in
            let both = and_parts (w.0.bucket == bucket) (is_start w.0.action) old.1 in
            (kept (λ p. p.0.bucket == bucket) starts r).1 ((are.same r).1 (record { version = w.0; there = old.0; start = both.1; row_is = w.2 }), ap (λ p. p.0.bucket == bucket) (sym w.2) ∙ both.0),
      )) in
      ap (λ rows. map start_row (map (λ r. (r.0.num, r.1)) rows)) same ∙ entries_back own low
