-- What a seek finds, among the versions of a bucket.
use Rattle.std.proofs.Common.{◌≡◌, ℕ, ◌≤◌, ◌==◌, nat_lt, true, false, not, List, [], ◌∷◌, find, subst, sym, ap, ◌∙◌, ⊎_elim, refl, arith, nat_cmp, is_le, is_lt, Less, Equal, Greater, inl, inr}
use Rattle.std.specs.Prelude.{option_map}
use Rattle.std.specs.declared.cmp.Ordering.{Ordering}
use Rattle.std.specs.List.{AllByRecursion}
use Rattle.std.specs.Map.{keys_of}
use Rattle.std.specs.Ordering.{ordering_then}
use Rattle.std.specs.Cmp.{nat_cmp_total, tied_itself}
use Rattle.std.proofs.lemmas.Bool.{cases_Bool, eqb-true}
use Rattle.std.proofs.lemmas.Bool.Decides.{nat_tests}
use Rattle.std.proofs.lemmas.Map.Keys.{sorted_head, sorted_tail}
use Rattle.b2_base.specs.declared.numbers.TheConstants.{LAST_VERSION}
use Rattle.b2_types.specs.declared.version.VersionOf.{VersionOf}
use Rattle.b2_model.specs.Rows.{is_before}
use Rattle.version_index.specs.declared.spot.Spot.{Spot}
use Rattle.version_index.specs.Rows.{AreAscending, AreInRange, listing_cmp, row_from}
use Rattle.version_index.specs.Rows.{placed}
use Rattle.version_index.proofs.Members.{placed_members}
use Rattle.index_rows.specs.OwnRows.{AreOwn, of_bucket, spot_of}
use Rattle.index_rows.proofs.Listed.{before_is}
use Rattle.index_rows.proofs.Members.{here, later}
use Rattle.listing_pages.specs.Places.{at_or_after}
use Rattle.listing_pages.proofs.Names.{cmp}
use Rattle.listing_pages.proofs.Shown.{InOrder}
use Rattle.listing_pages.proofs.Starts.{reversed}
use Rattle.listing_pages.proofs.Turns.{AreLow}

pub lower_number : (m n : ℕ) → is_le (nat_cmp m n) ≡ not (nat_lt n m)
lower_number m n = ⊎_elim
    (λ (is : nat_lt m n ≡ true). let no_higher : nat_lt n m ≡ false = grind (arith, nat_tests) in rw (is, no_higher) refl)
    (λ (other : nat_lt m n ≡ false). ⊎_elim
    (λ (same : (m == n) ≡ true). let no_higher : nat_lt n m ≡ false = grind (arith, nat_tests) in rw (other, same, no_higher) refl)
    (λ (apart : (m == n) ≡ false). let higher : nat_lt n m ≡ true = grind (arith, nat_tests) in rw (other, apart, higher) refl)
    (cases_Bool (m == n)))
    (cases_Bool (nat_lt m n))

module _ {C : Type 0} where
  by_name : (s : Spot) (v : VersionOf C) (o : Ordering) → cmp s.name v.name ≡ o → is_le (ordering_then o (nat_cmp v.num s.num)) ≡ at_or_after s v
  by_name s v Less is = rw (reversed s.name v.name Less is) refl
  by_name s v Equal is = rw (reversed s.name v.name Equal is) (lower_number v.num s.num)
  by_name s v Greater is = rw (reversed s.name v.name Greater is) refl

  place_is : (s : Spot) (v : VersionOf C) → v.bucket ≡ s.bucket → is_le (listing_cmp s (spot_of v)) ≡ at_or_after s v
  place_is s v same =
      let bucket : nat_cmp s.bucket v.bucket ≡ Equal = subst (λ n. nat_cmp s.bucket n ≡ Equal) (sym same) (tied_itself nat_cmp_total s.bucket) in
      ap (λ o. is_le (ordering_then o (ordering_then (cmp s.name v.name) (nat_cmp v.num s.num)))) bucket ∙ by_name s v (cmp s.name v.name) refl

  pub sought : (s : Spot) (rows : List (Spot × VersionOf C)) → AreOwn rows → find (at_or_after s) (of_bucket s.bucket rows) ≡ option_map (λ r. r.1) (row_from s rows)
  sought s [] own = refl
  sought s (x ∷ xs) own = ⊎_elim
      (λ (is : (x.0.bucket == s.bucket) ≡ true).
      let same = own x (here x xs) in
      let bucket : x.1.bucket ≡ s.bucket = ap (λ t. t.bucket) (sym same) ∙ eqb-true x.0.bucket s.bucket is in
      let place : at_or_after s x.1 ≡ is_le (listing_cmp s x.0) = sym (ap (λ t. is_le (listing_cmp s t)) same ∙ place_is s x.1 bucket) in
      ⊎_elim
      (λ (at_it : is_le (listing_cmp s x.0) ≡ true). rw (is, at_it, place ∙ at_it) refl)
      (λ (before : is_le (listing_cmp s x.0) ≡ false). rw (is, before, place ∙ before) (sought s xs (λ r a. own r (later x xs r a))))
      (cases_Bool (is_le (listing_cmp s x.0))))
      (λ (other : (x.0.bucket == s.bucket) ≡ false). rw other (sought s xs (λ r a. own r (later x xs r a))))
      (cases_Bool (x.0.bucket == s.bucket))

  -- each version of a bucket after a row of it
  all_later : (bucket : ℕ) (x : Spot × VersionOf C) (rows : List (Spot × VersionOf C)) → x.0 ≡ spot_of x.1 → x.0.bucket ≡ bucket → AreOwn rows → AllByRecursion (λ t. listing_cmp x.0 t ≡ Less) (keys_of rows) → AllByRecursion (λ w. is_before x.1 w ≡ true) (of_bucket bucket rows)
  all_later bucket x [] same here_is own all = tt
  all_later bucket x (y ∷ ys) same here_is own all = ⊎_elim
      (λ (is : (y.0.bucket == bucket) ≡ true).
      let its = own y (here y ys) in
      let buckets : x.1.bucket ≡ y.1.bucket = ap (λ t. t.bucket) (sym same) ∙ here_is ∙ sym (eqb-true y.0.bucket bucket is) ∙ ap (λ t. t.bucket) its in
      let before : is_before x.1 y.1 ≡ true = sym (before_is x.1 y.1 buckets) ∙ ap (λ t. is_lt (listing_cmp t (spot_of y.1))) (sym same) ∙ ap (λ t. is_lt (listing_cmp x.0 t)) (sym its) ∙ ap is_lt all.0 in
      rw is (before, all_later bucket x ys same here_is (λ r a. own r (later y ys r a)) all.1))
      (λ (other : (y.0.bucket == bucket) ≡ false). rw other (all_later bucket x ys same here_is (λ r a. own r (later y ys r a)) all.1))
      (cases_Bool (y.0.bucket == bucket))

  pub bucket_order : (bucket : ℕ) (rows : List (Spot × VersionOf C)) → AreAscending rows → AreOwn rows → InOrder (of_bucket bucket rows)
  bucket_order bucket [] up own = tt
  bucket_order bucket (x ∷ xs) up own = ⊎_elim
      (λ (is : (x.0.bucket == bucket) ≡ true). rw is (
        all_later bucket x xs (own x (here x xs)) (eqb-true x.0.bucket bucket is) (λ r a. own r (later x xs r a)) (sorted_head listing_cmp x.0 (keys_of xs) up),
        bucket_order bucket xs (sorted_tail listing_cmp x.0 (keys_of xs) up) (λ r a. own r (later x xs r a)),
      ))
      (λ (other : (x.0.bucket == bucket) ≡ false). rw other (bucket_order bucket xs (sorted_tail listing_cmp x.0 (keys_of xs) up) (λ r a. own r (later x xs r a))))
      (cases_Bool (x.0.bucket == bucket))

  pub bucket_low : (bucket : ℕ) (rows : List (Spot × VersionOf C)) → AreInRange rows → AreOwn rows → AreLow (of_bucket bucket rows)
  bucket_low bucket [] all own = tt
  bucket_low bucket (x ∷ xs) all own = ⊎_elim
      (λ (is : (x.0.bucket == bucket) ≡ true). rw is (subst (λ (t : Spot). t.num ≤ LAST_VERSION) (own x (here x xs)) all.0, bucket_low bucket xs all.1 (λ r a. own r (later x xs r a))))
      (λ (other : (x.0.bucket == bucket) ≡ false). rw other (bucket_low bucket xs all.1 (λ r a. own r (later x xs r a))))
      (cases_Bool (x.0.bucket == bucket))

  pub sought_in : (bucket : ℕ) (s : Spot) (rows : List (Spot × VersionOf C)) → s.bucket ≡ bucket → AreOwn rows → find (at_or_after s) (of_bucket bucket rows) ≡ option_map (λ r. r.1) (row_from s rows)
  sought_in bucket s rows is own = ap (λ b. find (at_or_after s) (of_bucket b rows)) (sym is) ∙ sought s rows own

-- a row that is placed at its own spot leaves each at its own
pub own_placed : {C : Type 0} (rows : List (Spot × VersionOf C)) (s : Spot) (v : VersionOf C) → AreOwn rows → s ≡ spot_of v → AreOwn (placed (s, v) rows)
own_placed rows s v own same r a = elim ((placed_members (s, v) rows r).0 a) [
  | inl is ↦ subst (λ (p : Spot × VersionOf _). p.0 ≡ spot_of p.1) is same
  | inr b ↦ own r b
]
