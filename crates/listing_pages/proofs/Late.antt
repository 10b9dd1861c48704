-- The visible versions that a listing of names shows, from its start on.
use Rattle.std.proofs.Common.{◌≡◌, ℕ, ◌<◌, ◌≤◌, ◌&&◌, nat_lt, Bool, true, false, not, List, [], ◌∷◌, Option, None, Some, filter, subst, sym, ap, ◌∙◌, ⊎_elim, refl, arith, Less, Equal, Greater}
use Rattle.std.specs.Prelude.{bytes_eq}
use Rattle.std.specs.declared.cmp.Ordering.{Ordering}
use Rattle.std.specs.List.{AllByRecursion}
use Rattle.std.specs.Ordering.{is_gt}
use Rattle.std.specs.Cmp.{tied_itself}
use Rattle.std.specs.Cmp.Lexicographic.{nat_list_cmp_total}
use Rattle.std.proofs.lemmas.Bool.{and_parts, and_right, cases_Bool, false≢true}
use Rattle.std.proofs.lemmas.Bool.Decides.{nat_tests}
use Rattle.std.proofs.lemmas.Map.Lookups.{exact_bytes}
use Rattle.b2_base.specs.declared.numbers.TheConstants.{LAST_VERSION}
use Rattle.b2_types.specs.declared.version.VersionOf.{VersionOf}
use Rattle.b2_model.specs.Checks.{some_and}
use Rattle.b2_model.specs.Pages.{file, folder, is_from, or_file, row_of, visible_versions, with_folders, with_prefix}
use Rattle.b2_model.specs.Rows.{is_before}
use Rattle.name_rules.specs.Folder.{begins_with}
use Rattle.listing_pages.specs.declared.ask.Ask.{Ask}
use Rattle.listing_pages.specs.NameRows.{is_late, is_visible}
use Rattle.listing_pages.specs.PageOf.{IsDelimiter, folder_of_name}
use Rattle.listing_pages.specs.Places.{at_or_after, begin_at}
use Rattle.listing_pages.proofs.Currents.{one_visible}
use Rattle.listing_pages.proofs.InFolders.{are_folders, bytes_are, bytes_same}
use Rattle.listing_pages.proofs.Left.{exchanged}
use Rattle.listing_pages.proofs.Names.{begins_upto, cmp}
use Rattle.listing_pages.proofs.Shown.{InOrder, PassFrom, all_both, all_kept, filter_same, filter_twice, left_out, order_kept, passes, row_is, shown}
use Rattle.listing_pages.proofs.Starts.{from_folder, kept_at, reversed, upto_upto}
use Rattle.listing_pages.proofs.Turns.{AreLow, at_later, names_upto}

with_true : (b : Bool) → (b && true) ≡ b
with_true true = refl
with_true false = refl

swap_and : (p a n : Bool) → (p && (a && n)) ≡ (a && (p && n))
swap_and true a n = refl
swap_and false true n = refl
swap_and false false n = refl

between_same : (a b : List ℕ) → is_gt (cmp a b) ≡ false → is_gt (cmp b a) ≡ false → a ≡ b
between_same a b first second = by (cmp a b) refl where
  by : (o : Ordering) → cmp a b ≡ o → a ≡ b
  by Less e = absurd (false≢true (sym second ∙ ap is_gt (reversed a b Less e)))
  by Equal e = exact_bytes a b e
  by Greater e = absurd (false≢true (sym first ∙ ap is_gt e))

module _ {C : Type 0} (R : List (VersionOf C)) (ask : Ask) where
  -- a late version that is in no folder has no row
  abbrev pub late_row : Option (List ℕ) → VersionOf C → Bool
  late_row None v = is_late ask v
  late_row (Some g) v = false

  -- the versions that have a row
  abbrev pub counts : VersionOf C → Bool
  counts v = is_visible R v && not (late_row (folder_of_name ask.prefix ask.delimiter v.name) v)

module _ {C : Type 0} (R : List (VersionOf C)) (up : InOrder R) (low : AreLow R) (ask : Ask) (given : IsDelimiter ask.delimiter) where
  abbrev kept : VersionOf C → Bool
  kept v = is_from ask.start ask.start_num (row_of ask.prefix ask.delimiter v)

  abbrev here : VersionOf C → Bool
  here v = at_or_after (begin_at ask None) v && not (late_row R ask (folder_of_name ask.prefix ask.delimiter v.name) v)

  file_kept : (v : VersionOf C) (o : Ordering) → cmp v.name ask.start ≡ o
      → is_from ask.start ask.start_num (file v) ≡ (is_from ask.start None (file v) && not (is_late ask v))
  file_kept v Less is = rw is refl
  file_kept v Equal is = rw (is, ap (λ n. bytes_eq n ask.start) (exact_bytes v.name ask.start is) ∙ bytes_same ask.start) (ap not (sym (with_true (some_and (λ n. nat_lt n v.num) ask.start_num))))
  file_kept v Greater is =
      let other : bytes_eq v.name ask.start ≡ false = ⊎_elim
      (λ (same : bytes_eq v.name ask.start ≡ true). absurd (let bad : Equal ≡ Greater = sym (tied_itself nat_list_cmp_total ask.start) ∙ ap (λ n. cmp n ask.start) (sym (bytes_are v.name ask.start same)) ∙ is in cc))
      (λ (no_same : bytes_eq v.name ask.start ≡ false). no_same)
      (cases_Bool (bytes_eq v.name ask.start)) in
      rw (is, other) (ap not (sym (and_right (some_and (λ n. nat_lt n v.num) ask.start_num) false refl)))

  by_folder : (v : VersionOf C) (o : Option (List ℕ)) → is_from ask.start ask.start_num (or_file v o) ≡ (is_from ask.start None (or_file v o) && not (late_row R ask o v))
  by_folder v None = file_kept v (cmp v.name ask.start) refl
  by_folder v (Some g) = from_folder C ask.start ask.start_num g ∙ sym (from_folder C ask.start None g) ∙ sym (with_true (is_from {C = C} ask.start None (folder g)))

  kept_is : (v : VersionOf C) → v.num ≤ LAST_VERSION → begins_with ask.prefix v.name ≡ true → kept v ≡ here v
  kept_is v is begins =
      ap (is_from ask.start ask.start_num) (row_is ask.prefix ask.delimiter v)
      ∙ by_folder v (folder_of_name ask.prefix ask.delimiter v.name)
      ∙ ap (λ b. b && not (late_row R ask (folder_of_name ask.prefix ask.delimiter v.name) v)) (kept_at ask.prefix (folder_of_name ask.prefix ask.delimiter) (are_folders ask.prefix ask.delimiter given) ask.bucket ask.start None v is begins)

  -- what is kept stands at the start or after it
  kept_upto : (v : VersionOf C) (o : Option (List ℕ)) → folder_of_name ask.prefix ask.delimiter v.name ≡ o → is_from ask.start ask.start_num (or_file v o) ≡ true → is_gt (cmp ask.start v.name) ≡ false
  kept_upto v None is keeps = by (cmp v.name ask.start) refl where
    by : (p : Ordering) → cmp v.name ask.start ≡ p → is_gt (cmp ask.start v.name) ≡ false
    by Less e = absurd (let no_row : false ≡ true = rw e at keeps in false≢true no_row)
    by Equal e = ap is_gt (reversed v.name ask.start Equal e)
    by Greater e = ap is_gt (reversed v.name ask.start Greater e)
  kept_upto v (Some g) is keeps = upto_upto ask.start g v.name (low_folder (is_gt (cmp ask.start g)) (sym (from_folder C ask.start ask.start_num g) ∙ keeps)) (begins_upto g v.name ((are_folders ask.prefix ask.delimiter given).begins v.name g is)) where
    low_folder : (b : Bool) → not b ≡ true → b ≡ false
    low_folder true x = absurd (false≢true x)
    low_folder false x = refl

  -- after a visible version that is kept none is late
  none_late : (v w : VersionOf C) → is_visible R v ≡ true → is_visible R w ≡ true → is_before v w ≡ true → kept v ≡ true → late_row R ask (folder_of_name ask.prefix ask.delimiter w.name) w ≡ false
  none_late v w first second before keeps = by (folder_of_name ask.prefix ask.delimiter w.name) where
    upto : is_gt (cmp ask.start v.name) ≡ false
    upto = kept_upto v (folder_of_name ask.prefix ask.delimiter v.name) refl (ap (is_from ask.start ask.start_num) (sym (row_is ask.prefix ask.delimiter v)) ∙ keeps)

    never : w.name ≡ ask.start → ⊥
    never same =
        let one : v.name ≡ w.name = between_same v.name w.name (names_upto v w before) (subst (λ n. is_gt (cmp n v.name) ≡ false) (sym same) upto) in
        let lower : nat_lt w.num v.num ≡ true = rw (subst (λ n. cmp v.name n ≡ Equal) one (tied_itself nat_list_cmp_total v.name)) at before in
        not_lower w.num v.num lower (one_visible R v w first second one) where
          not_lower : (m n : ℕ) → nat_lt m n ≡ true → n ≡ m → ⊥
          not_lower m n is same_number = let is_less : m < n = grind (arith, nat_tests) in omega arith

    by : (o : Option (List ℕ)) → late_row R ask o w ≡ false
    by None = ⊎_elim
        (λ (late : is_late ask w ≡ true). absurd (never (bytes_are w.name ask.start (and_parts (some_and (λ n. nat_lt n w.num) ask.start_num) (bytes_eq w.name ask.start) late).1)))
        (λ (in_time : is_late ask w ≡ false). in_time)
        (cases_Bool (is_late ask w))
    by (Some g) = refl

  abbrev Both : VersionOf C → Type 0
  Both v = (kept v ≡ here v) × (is_visible R v ≡ true)

  pass_from : (vs : List (VersionOf C)) → InOrder vs → AllByRecursion Both vs → PassFrom ask.prefix ask.delimiter (is_from ask.start ask.start_num) vs
  pass_from [] order all = tt
  pass_from (v ∷ vs) order all = (
    λ is. all_both (λ w. is_before v w ≡ true) Both (λ w. kept w ≡ true) (later is) vs order.0 all.1,
    pass_from vs order.1 all.1,
  ) where
    later : kept v ≡ true → (w : VersionOf C) → is_before v w ≡ true → Both w → kept w ≡ true
    later is w before both =
        let place = (and_parts (at_or_after (begin_at ask None) v) (not (late_row R ask (folder_of_name ask.prefix ask.delimiter v.name) v)) (sym all.0.0 ∙ is)).0 in
        both.0 ∙ ap (λ b. b && not (late_row R ask (folder_of_name ask.prefix ask.delimiter w.name) w)) (at_later (begin_at ask None) v w place before)
        ∙ ap not (none_late v w all.0.1 both.1 before is)

  pub whole_names : filter (is_from ask.start ask.start_num) (shown ask.prefix ask.delimiter (visible_versions R)) ≡ shown ask.prefix ask.delimiter (filter (counts R ask) (filter (at_or_after (begin_at ask None)) R))
  whole_names =
      let low_ones : AllByRecursion (λ v. v.num ≤ LAST_VERSION) (with_prefix ask.prefix (filter (is_visible R) R)) =
      all_kept (λ v. v.num ≤ LAST_VERSION) (λ v. begins_with ask.prefix v.name) (filter (is_visible R) R) (all_kept (λ v. v.num ≤ LAST_VERSION) (is_visible R) R low) in
      let same : AllByRecursion (λ v. kept v ≡ here v) (with_prefix ask.prefix (filter (is_visible R) R)) =
      all_both (λ v. v.num ≤ LAST_VERSION) (λ v. begins_with ask.prefix v.name ≡ true) (λ v. kept v ≡ here v) kept_is (with_prefix ask.prefix (filter (is_visible R) R)) low_ones (passes (λ v. begins_with ask.prefix v.name) (filter (is_visible R) R)) in
      let both : AllByRecursion Both (with_prefix ask.prefix (filter (is_visible R) R)) =
      all_both (λ v. kept v ≡ here v) (λ v. is_visible R v ≡ true) Both (λ v a b. (a, b)) (with_prefix ask.prefix (filter (is_visible R) R)) same
      (all_kept (λ v. is_visible R v ≡ true) (λ v. begins_with ask.prefix v.name) (filter (is_visible R) R) (passes (is_visible R) R)) in
      left_out ask.prefix ask.delimiter (is_from ask.start ask.start_num) (with_prefix ask.prefix (filter (is_visible R) R))
      (pass_from (with_prefix ask.prefix (filter (is_visible R) R)) (order_kept (λ v. begins_with ask.prefix v.name) (filter (is_visible R) R) (order_kept (is_visible R) R up)) both)
      ∙ ap (with_folders ask.prefix ask.delimiter)
      (filter_same kept here (with_prefix ask.prefix (filter (is_visible R) R)) same
      ∙ exchanged here (λ v. begins_with ask.prefix v.name) (filter (is_visible R) R)
      ∙ ap (with_prefix ask.prefix) (filter_twice here (is_visible R) R ∙ filter_same (λ v. is_visible R v && here v) (λ v. at_or_after (begin_at ask None) v && counts R ask v) R (every R) ∙ sym (filter_twice (counts R ask) (at_or_after (begin_at ask None)) R)))
    where
      every : (vs : List (VersionOf C)) → AllByRecursion (λ v. (is_visible R v && here v) ≡ (at_or_after (begin_at ask None) v && counts R ask v)) vs
      every [] = tt
      every (v ∷ vs) = (swap_and (is_visible R v) (at_or_after (begin_at ask None) v) (not (late_row R ask (folder_of_name ask.prefix ask.delimiter v.name) v)), every vs)
