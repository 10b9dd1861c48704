-- What is left of a listing at a place, and what each turn takes of it.
use Rattle.std.proofs.Common.{◌≡◌, ℕ, ◌<◌, ◌≤◌, ◌&&◌, Bool, true, false, cond, List, [], ◌∷◌, Option, None, Some, length, filter, find, subst, sym, ap, ◌∙◌, ⊎_elim, refl, is_lt}
use Rattle.std.specs.List.{AllByRecursion}
use Rattle.std.specs.Ordering.{is_gt}
use Rattle.std.proofs.lemmas.Bool.{cases_Bool, false≢true}
use Rattle.b2_base.specs.declared.numbers.TheConstants.{LAST_VERSION}
use Rattle.b2_types.specs.declared.version.VersionOf.{VersionOf}
use Rattle.b2_model.specs.Pages.{before_others, file, folder, is_from, or_file, row_of, with_folders, with_prefix}
use Rattle.b2_model.specs.Rows.{is_before}
use Rattle.name_rules.specs.Folder.{begins_with}
use Rattle.version_index.specs.declared.spot.Spot.{Spot}
use Rattle.listing_pages.specs.Orders.{is_past}
use Rattle.listing_pages.specs.PageOf.{IsDelimiter, folder_of_name}
use Rattle.listing_pages.specs.Places.{after_folder, after_version, at_or_after, first_of_name, in_folder}
use Rattle.listing_pages.proofs.InFolders.{are_folders}
use Rattle.listing_pages.proofs.Names.{at_folder, at_version, begins_between, cmp}
use Rattle.listing_pages.proofs.Shown.{InOrder, PassFrom, all_both, all_from, all_kept, file_first, filter_none, filter_same, filter_twice, left_out, none_found, order_kept, passes, row_is, shown}
use Rattle.listing_pages.proofs.Starts.{begins_itself, kept_at}
use Rattle.listing_pages.proofs.Turns.{AreLow, InOrPast, at_later, from_place, implied, in_or_past, names_upto, once_out, one_folder, past_after}

-- two filters in either order
pub exchanged : {X : Type 0} (p q : X → Bool) (xs : List X) → filter p (filter q xs) ≡ filter q (filter p xs)
exchanged p q [] = refl
exchanged p q (x ∷ xs) = ⊎_elim
    (λ (is : q x ≡ true). ⊎_elim
    (λ (yes : p x ≡ true). rw (is, yes, is) (ap (λ l. x ∷ l) (exchanged p q xs)))
    (λ (other : p x ≡ false). rw (is, other) (exchanged p q xs))
    (cases_Bool (p x)))
    (λ (out : q x ≡ false). ⊎_elim
    (λ (yes : p x ≡ true). rw (out, yes, out) (exchanged p q xs))
    (λ (other : p x ≡ false). rw (out, other) (exchanged p q xs))
    (cases_Bool (p x)))
    (cases_Bool (q x))

module _ {C : Type 0} (prefix : List ℕ) (delimiter : Option (List ℕ)) (given : IsDelimiter delimiter) (P : VersionOf C → Bool) (R : List (VersionOf C)) (up : InOrder R) (low : AreLow R) where
  -- the versions that count, at a place and after it
  abbrev pub left : Spot → List (VersionOf C)
  left s = filter P (filter (at_or_after s) R)

  -- those after a version
  abbrev pub after : VersionOf C → List (VersionOf C)
  after r = filter P (filter (is_before r) R)

  pub none_left : (s : Spot) → find (at_or_after s) R ≡ None → left s ≡ []
  none_left s none = ap (filter P) (none_found (at_or_after s) R none)

  pub one_left : (s : Spot) (r : VersionOf C) → find (at_or_after s) R ≡ Some r → P r ≡ true → left s ≡ r ∷ after r
  one_left s r found counts = ap (filter P) (from_place s R r up found) ∙ rw counts refl

  pub pass_left : (s : Spot) (r : VersionOf C) → find (at_or_after s) R ≡ Some r → P r ≡ false → left s ≡ after r
  pass_left s r found other = ap (filter P) (from_place s R r up found) ∙ rw other refl

  -- ---- places after a version

  pub after_its_version : (bucket : ℕ) (r : VersionOf C) → after r ≡ left (after_version bucket r.name r.num)
  after_its_version bucket r = ap (filter P) (filter_same (is_before r) (at_or_after (after_version bucket r.name r.num)) R (all_from (λ w. w.num ≤ LAST_VERSION) (λ w. is_before r w ≡ at_or_after (after_version bucket r.name r.num) w) (λ w is. sym (at_version bucket r w is)) R low))

  past_is : (r : VersionOf C) (f : List ℕ) (bucket : ℕ) → begins_with f r.name ≡ true → 0 < length f → (w : VersionOf C) → w.num ≤ LAST_VERSION → (is_before r w && is_past f w.name) ≡ at_or_after (after_folder bucket f) w
  past_is r f bucket begins some w is = implied (is_before r w) (is_past f w.name) (past_after prefix delimiter given r f begins w) ∙ sym (at_folder bucket f w is some)

  swapped : (p : VersionOf C → Bool) (vs : List (VersionOf C)) → filter p (filter P vs) ≡ filter P (filter p vs)
  swapped p vs = exchanged p P vs

  after_its_folder : (bucket : ℕ) (r : VersionOf C) (f : List ℕ) → begins_with f r.name ≡ true → 0 < length f → filter (λ w. is_past f w.name) (after r) ≡ left (after_folder bucket f)
  after_its_folder bucket r f begins some =
      swapped (λ w. is_past f w.name) (filter (is_before r) R)
      ∙ ap (filter P) (filter_twice (λ w. is_past f w.name) (is_before r) R
      ∙ filter_same (λ w. is_before r w && is_past f w.name) (at_or_after (after_folder bucket f)) R (all_from (λ w. w.num ≤ LAST_VERSION) (λ w. (is_before r w && is_past f w.name) ≡ at_or_after (after_folder bucket f) w) (past_is r f bucket begins some) R low))

  -- ---- turns

  all_after : (r : VersionOf C) → AllByRecursion (λ w. is_before r w ≡ true) (after r)
  all_after r = all_kept (λ w. is_before r w ≡ true) P (filter (is_before r) R) (passes (is_before r) R)

  shown_first : (r : VersionOf C) (vs : List (VersionOf C)) → begins_with prefix r.name ≡ true → (o : Option (List ℕ)) → folder_of_name prefix delimiter r.name ≡ o → shown prefix delimiter (r ∷ vs) ≡ before_others (or_file r o) (shown prefix delimiter vs)
  shown_first r vs begins o is = rw begins (ap (λ x. before_others x (shown prefix delimiter vs)) (row_is prefix delimiter r ∙ ap (or_file r) is))

  -- a version that is in no folder
  pub file_turn : (s : Spot) (r : VersionOf C) → find (at_or_after s) R ≡ Some r → P r ≡ true → begins_with prefix r.name ≡ true → folder_of_name prefix delimiter r.name ≡ None
      → shown prefix delimiter (left s) ≡ file r ∷ shown prefix delimiter (after r)
  file_turn s r found counts begins none =
      ap (shown prefix delimiter) (one_left s r found counts) ∙ shown_first r (after r) begins None none ∙ file_first r (shown prefix delimiter (after r))

  -- a version that is in a folder, whose rows are passed by one place
  pub folder_turn : (bucket : ℕ) (s : Spot) (r : VersionOf C) (f : List ℕ) → find (at_or_after s) R ≡ Some r → P r ≡ true → begins_with prefix r.name ≡ true → folder_of_name prefix delimiter r.name ≡ Some f
      → shown prefix delimiter (left s) ≡ folder f ∷ shown prefix delimiter (left (after_folder bucket f))
  folder_turn bucket s r f found counts begins in_it =
      let are = are_folders prefix delimiter given in
      let in_f = are.begins r.name f in_it in
      ap (shown prefix delimiter) (one_left s r found counts) ∙ shown_first r (after r) begins (Some f) in_it
      ∙ one_folder prefix delimiter given r f (after r) in_it (are.prefixed r.name f in_it begins)
      (all_from (λ w. is_before r w ≡ true) (InOrPast prefix delimiter given f) (in_or_past prefix delimiter given r f in_f) (after r) (all_after r))
      (once_out prefix delimiter given r f in_f (after r) (all_after r) (order_kept P (filter (is_before r) R) (order_kept (is_before r) R up)))
      ∙ ap (λ l. folder f ∷ shown prefix delimiter l) (after_its_folder bucket r f in_f (are.some r.name f in_it))

  -- no name from here on begins with the prefix
  pub no_more : (s : Spot) (r : VersionOf C) → find (at_or_after s) R ≡ Some r → is_gt (cmp prefix r.name) ≡ false → begins_with prefix r.name ≡ false → shown prefix delimiter (left s) ≡ []
  no_more s r found upto out =
      ap (with_folders prefix delimiter) (filter_none (λ v. begins_with prefix v.name) (left s)
      (subst (AllByRecursion (λ v. begins_with prefix v.name ≡ false)) (sym (ap (filter P) (from_place s R r up found)))
      (all_kept (λ v. begins_with prefix v.name ≡ false) P (r ∷ filter (is_before r) R) (out, all_from (λ w. is_before r w ≡ true) (λ w. begins_with prefix w.name ≡ false) later (filter (is_before r) R) (passes (is_before r) R)))))
    where
      later : (w : VersionOf C) → is_before r w ≡ true → begins_with prefix w.name ≡ false
      later w before = ⊎_elim
          (λ (is : begins_with prefix w.name ≡ true). absurd (false≢true (sym out ∙ begins_between prefix prefix r.name w.name (begins_itself prefix) is upto (names_upto r w before))))
          (λ (no_prefix : begins_with prefix w.name ≡ false). no_prefix)
          (cases_Bool (begins_with prefix w.name))

  -- ---- the whole

  module _ (bucket : ℕ) (start : List ℕ) (num : Option ℕ) where
    -- where the listing begins
    abbrev pub begin : Spot
    begin = cond (is_lt (cmp start prefix)) (first_of_name bucket prefix) (in_folder bucket start num (folder_of_name prefix delimiter start))

    abbrev kept : VersionOf C → Bool
    kept v = is_from start num (row_of prefix delimiter v)

    kept_is : (v : VersionOf C) → v.num ≤ LAST_VERSION → begins_with prefix v.name ≡ true → kept v ≡ at_or_after begin v
    kept_is v is begins = ap (is_from start num) (row_is prefix delimiter v) ∙ kept_at prefix (folder_of_name prefix delimiter) (are_folders prefix delimiter given) bucket start num v is begins

    pass_from : (vs : List (VersionOf C)) → InOrder vs → AllByRecursion (λ v. kept v ≡ at_or_after begin v) vs → PassFrom prefix delimiter (is_from start num) vs
    pass_from [] order all = tt
    pass_from (v ∷ vs) order all = (
      λ is. all_both (λ w. is_before v w ≡ true) (λ w. kept w ≡ at_or_after begin w) (λ w. kept w ≡ true) (λ w before same. same ∙ at_later begin v w (sym all.0 ∙ is) before) vs order.0 all.1,
      pass_from vs order.1 all.1,
    )

    pub whole : filter (is_from start num) (shown prefix delimiter (filter P R)) ≡ shown prefix delimiter (left begin)
    whole =
        let both : AllByRecursion (λ v. kept v ≡ at_or_after begin v) (with_prefix prefix (filter P R)) =
        all_both (λ v. v.num ≤ LAST_VERSION) (λ v. begins_with prefix v.name ≡ true) (λ v. kept v ≡ at_or_after begin v) kept_is (with_prefix prefix (filter P R))
        (all_kept (λ v. v.num ≤ LAST_VERSION) (λ v. begins_with prefix v.name) (filter P R) (all_kept (λ v. v.num ≤ LAST_VERSION) P R low))
        (passes (λ v. begins_with prefix v.name) (filter P R)) in
        left_out prefix delimiter (is_from start num) (with_prefix prefix (filter P R)) (pass_from (with_prefix prefix (filter P R)) (order_kept (λ v. begins_with prefix v.name) (filter P R) (order_kept P R up)) both)
        ∙ ap (with_folders prefix delimiter)
        (filter_same kept (at_or_after begin) (with_prefix prefix (filter P R)) both
        ∙ exchanged (at_or_after begin) (λ v. begins_with prefix v.name) (filter P R)
        ∙ ap (with_prefix prefix) (swapped (at_or_after begin) R))
