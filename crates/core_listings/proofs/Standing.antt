-- The rows of pages are of versions that stand in the bucket.
use Rattle.std.proofs.Common.{◌≡◌, ℕ, ◌<◌, zero, suc, Bool, true, false, ◌&&◌, ◌==◌, List, [], ◌∷◌, Option, None, Some, filter, find, fold, nat_le, take, slice_get, refl, ⊎_elim, arith}
use Rattle.std.specs.Prelude.{⊤}
use Rattle.std.specs.List.{AllByRecursion, Contains}
use Rattle.std.specs.Option.{IfSome}
use Rattle.std.proofs.lemmas.Bool.{cases_Bool}
use Rattle.std.proofs.lemmas.Bool.Decides.{nat_tests}
use Rattle.b2_types.specs.declared.version.VersionOf.{VersionOf}
use Rattle.b2_model.specs.Kinds.{is_start}
use Rattle.sound_states.proofs.Tests.{both_hold, equal_numbers}
use Rattle.b2_model.specs.Pages.{Listing, Row, before_others, file, folder, is_from, listing_page, or_file, page_size, most_rows, row_of, same_folder, unfinished_page, with_folders, with_prefix}
use Rattle.b2_model.specs.Rows.{is_before, put_row, rows, version_at}
use Rattle.b2_model.specs.State.{State}
use Rattle.name_rules.specs.Folder.{begins_with, folder_in}
use Rattle.index_rows.specs.OwnRows.{AreNumbered}
use Rattle.index_rows.proofs.Members.{here, later, pairs_head, pairs_tail}
use Rattle.listing_pages.proofs.Shown.{all_both, all_kept, found_passes}

-- ---- lists

module _ {X : Type 0} (P : X → Type 0) where
  -- one more of those that pass
  one_more : (p : X → Bool) (x : X) (xs : List X) → (p x ≡ true → P x) → AllByRecursion P (filter p xs) → AllByRecursion P (filter p (x ∷ xs))
  one_more p x xs it rest = ⊎_elim
      (λ (is : p x ≡ true). rw is (it is, rest))
      (λ (other : p x ≡ false). rw other rest)
      (cases_Bool (p x))

  pub all_taken : (n : ℕ) (xs : List X) → AllByRecursion P xs → AllByRecursion P (take n xs)
  all_taken zero xs all = tt
  all_taken (suc n) [] all = tt
  all_taken (suc n) (x ∷ xs) all = (all.0, all_taken n xs all.1)

  pub at_place : (n : ℕ) (xs : List X) → AllByRecursion P xs → IfSome (slice_get xs n) P
  at_place n [] all = tt
  at_place zero (x ∷ xs) all = all.0
  at_place (suc n) (x ∷ xs) all = at_place n xs all.1

  -- what holds of all that a list contains
  all_members : (xs : List X) → ((x : X) → Contains xs x → P x) → AllByRecursion P xs
  all_members [] each = tt
  all_members (x ∷ xs) each = (each x (here x xs), all_members xs (λ y a. each y (later x xs y a)))

-- ---- versions

no_and : (b : Bool) → (b && false) ≡ false
no_and true = refl
no_and false = refl

itself : (n : ℕ) → (n == n) ≡ true
itself n = grind (arith, nat_tests)

apart : (m n : ℕ) → m < n → (m == n) ≡ false
apart m n less = grind (arith, nat_tests, less)

module _ {C : Type 0} where
  -- the number of a version finds it
  abbrev pub IsFound : State C → ℕ → VersionOf C → Type 0
  IsFound M bucket v = version_at M bucket v.num ≡ Some v

  abbrev finds : ℕ → List (VersionOf C) → VersionOf C → Type 0
  finds bucket vs v = find (λ w. w.bucket == bucket && w.num == v.num) vs ≡ Some v

  above : (v : VersionOf C) (vs : List (VersionOf C)) → AreNumbered (v ∷ vs) → AllByRecursion (λ w. v.num < w.num) vs
  above v vs up = all_members (λ w. v.num < w.num) vs (pairs_head (λ a b. a.num < b.num) v vs up)

  found_each : (bucket : ℕ) (p : VersionOf C → Bool) → ((v : VersionOf C) → p v ≡ true → (v.bucket == bucket) ≡ true) → (vs : List (VersionOf C)) → AreNumbered vs
      → AllByRecursion (finds bucket vs) (filter p vs)
  found_each bucket p in_it [] up = tt
  found_each bucket p in_it (v ∷ vs) up = one_more (finds bucket (v ∷ vs)) p v vs
      (λ passes. rw (in_it v passes, itself v.num) refl)
      (all_both (finds bucket vs) (λ w. v.num < w.num) (finds bucket (v ∷ vs))
      (λ w found less. rw (apart v.num w.num less, no_and (v.bucket == bucket)) found)
      (filter p vs)
      (found_each bucket p in_it vs (pairs_tail (λ a b. a.num < b.num) v vs up))
      (all_kept (λ w. v.num < w.num) p vs (above v vs up)))

  pub put_all : (P : VersionOf C → Type 0) (v : VersionOf C) (vs : List (VersionOf C)) → P v → AllByRecursion P vs → AllByRecursion P (put_row v vs)
  put_all P v [] it all = (it, tt)
  put_all P v (w ∷ ws) it all = ⊎_elim
      (λ (first : is_before v w ≡ true). rw first (it, all))
      (λ (other : is_before v w ≡ false). rw other (all.0, put_all P v ws it all.1))
      (cases_Bool (is_before v w))

  pub all_listed : (P : VersionOf C → Type 0) (sorted vs : List (VersionOf C)) → AllByRecursion P sorted → AllByRecursion P vs → AllByRecursion P (fold (λ ws v. put_row v ws) sorted vs)
  all_listed P sorted [] done all = done
  all_listed P sorted (v ∷ vs) done all = all_listed P (put_row v sorted) vs (put_all P v sorted all.0 done) all.1

  pub rows_found : (M : State C) (bucket : ℕ) → AreNumbered M.versions → AllByRecursion (IsFound M bucket) (rows M bucket)
  rows_found M bucket up = all_listed (IsFound M bucket) [] (filter (λ v. v.bucket == bucket) M.versions) tt
      (found_each bucket (λ v. v.bucket == bucket) (λ v is. is) M.versions up)

  -- ---- rows of pages

  abbrev pub StandsIn : State C → ℕ → Row C → Type 0
  StandsIn M bucket (file v) = IsFound M bucket v
  StandsIn M bucket (folder name) = ⊤

  before_all : (P : Row C → Type 0) (r : Row C) (rs : List (Row C)) → P r → AllByRecursion P rs → AllByRecursion P (before_others r rs)
  before_all P r [] it all = (it, tt)
  before_all P r (s ∷ rest) it all = ⊎_elim
      (λ (same : same_folder r s ≡ true). rw same all)
      (λ (other : same_folder r s ≡ false). rw other (it, all))
      (cases_Bool (same_folder r s))

  row_stands : (M : State C) (bucket : ℕ) (prefix : List ℕ) (delimiter : Option (List ℕ)) (v : VersionOf C) → IsFound M bucket v → StandsIn M bucket (row_of prefix delimiter v)
  row_stands M bucket prefix None v found = found
  row_stands M bucket prefix (Some d) v found = by_folder (folder_in prefix d v.name)
    where
      by_folder : (o : Option (List ℕ)) → StandsIn M bucket (or_file v o)
      by_folder None = found
      by_folder (Some name) = tt

  folders_stand : (M : State C) (bucket : ℕ) (prefix : List ℕ) (delimiter : Option (List ℕ)) (vs : List (VersionOf C)) → AllByRecursion (IsFound M bucket) vs
      → AllByRecursion (StandsIn M bucket) (with_folders prefix delimiter vs)
  folders_stand M bucket prefix delimiter [] all = tt
  folders_stand M bucket prefix delimiter (v ∷ vs) all = before_all (StandsIn M bucket) (row_of prefix delimiter v) (with_folders prefix delimiter vs)
      (row_stands M bucket prefix delimiter v all.0) (folders_stand M bucket prefix delimiter vs all.1)

  -- all rows that a listing asks for
  asked_stand : (M : State C) (bucket : ℕ) (ask : Listing) (vs : List (VersionOf C)) → AllByRecursion (IsFound M bucket) vs
      → AllByRecursion (StandsIn M bucket) (filter (is_from ask.start ask.start_num) (with_folders ask.prefix ask.delimiter (with_prefix ask.prefix vs)))
  asked_stand M bucket ask vs all =
      all_kept (StandsIn M bucket) (is_from ask.start ask.start_num) (with_folders ask.prefix ask.delimiter (with_prefix ask.prefix vs))
      (folders_stand M bucket ask.prefix ask.delimiter (with_prefix ask.prefix vs) (all_kept (IsFound M bucket) (λ v. begins_with ask.prefix v.name) vs all))

  pub page_stands : (M : State C) (bucket : ℕ) (ask : Listing) (vs : List (VersionOf C)) → AllByRecursion (IsFound M bucket) vs
      → AllByRecursion (StandsIn M bucket) (listing_page ask vs).rows × IfSome (listing_page ask vs).next (StandsIn M bucket)
  page_stands M bucket ask vs all = (
    all_taken (StandsIn M bucket) (page_size most_rows ask.most) _ (asked_stand M bucket ask vs all),
    at_place (StandsIn M bucket) (page_size most_rows ask.most) _ (asked_stand M bucket ask vs all),
  )

  abbrev pub is_begun : ℕ → VersionOf C → Bool
  is_begun bucket v = v.bucket == bucket && is_start v.action

  -- pages by number
  pub starts_stand : (M : State C) (bucket : ℕ) (prefix : List ℕ) (start : ℕ) (most : Option ℕ) → AreNumbered M.versions
      → AllByRecursion (IsFound M bucket) (unfinished_page M bucket prefix start most).rows × IfSome (unfinished_page M bucket prefix start most).next (IsFound M bucket)
  starts_stand M bucket prefix start most up =
      let all = filter (λ v. nat_le start v.num) (with_prefix prefix (filter (is_begun bucket) M.versions)) in
      let found = all_kept (IsFound M bucket) (λ v. nat_le start v.num) (with_prefix prefix (filter (is_begun bucket) M.versions))
      (all_kept (IsFound M bucket) (λ v. begins_with prefix v.name) (filter (is_begun bucket) M.versions)
      (found_each bucket (is_begun bucket) (λ v is. (both_hold (v.bucket == bucket) (is_start v.action) is).0) M.versions up)) in
      (all_taken (IsFound M bucket) (page_size 100 most) all found, at_place (IsFound M bucket) (page_size 100 most) all found)

  pub in_bucket : (M : State C) (bucket : ℕ) (v : VersionOf C) → IsFound M bucket v → v.bucket ≡ bucket
  in_bucket M bucket v found =
      equal_numbers v.bucket bucket (both_hold (v.bucket == bucket) (v.num == v.num) (found_passes (λ w. w.bucket == bucket && w.num == v.num) M.versions v found)).0
