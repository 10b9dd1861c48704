-- What is left of a listing from a place on, and each turn of it.
use Rattle.std.proofs.Common.{◌≡◌, ℕ, ◌≤◌, ◌&&◌, nat_lt, Bool, true, false, not, List, [], ◌∷◌, Option, None, Some, filter, find, sym, ap, ◌∙◌, ⊎_elim, refl, arith, is_lt, Less, Equal, Greater}
use Rattle.std.specs.Prelude.{bytes_eq}
use Rattle.std.specs.declared.cmp.Ordering.{Ordering}
use Rattle.std.specs.List.{AllByRecursion}
use Rattle.std.specs.Ordering.{is_gt}
use Rattle.std.specs.Cmp.Lexicographic.{nat_list_cmp_total}
use Rattle.std.proofs.lemmas.Bool.{and_parts, and_right, cases_Bool, false≢true}
use Rattle.std.proofs.lemmas.Bool.Decides.{nat_tests}
use Rattle.std.proofs.lemmas.Map.Lookups.{exact_bytes}
use Rattle.b2_base.specs.declared.numbers.TheConstants.{LAST_VERSION}
use Rattle.b2_types.specs.declared.version.VersionOf.{VersionOf}
use Rattle.b2_model.specs.Pages.{before_others, folder, or_file, row_of, same_folder}
use Rattle.b2_model.specs.Rows.{is_before}
use Rattle.name_rules.specs.Folder.{begins_with}
use Rattle.version_index.specs.declared.spot.Spot.{Spot}
use Rattle.listing_pages.specs.Orders.{is_past}
use Rattle.listing_pages.specs.PageOf.{IsDelimiter, folder_of_name}
use Rattle.listing_pages.specs.Places.{at_or_after}
use Rattle.listing_pages.proofs.InFolders.{are_folders, begins_through, bytes_are}
use Rattle.listing_pages.proofs.Names.{begins_between, begins_upto, cmp}
use Rattle.listing_pages.proofs.Shown.{InOrder, IsOtherFirst, all_both, all_from, filter_all, filter_same, first_found, found_passes, in_front, merged, other_first, row_is, shown}
use Rattle.listing_pages.proofs.Starts.{begins_itself, reversed, upto_upto}

-- ---- the order of versions

higher : (n a b : ℕ) → not (nat_lt n a) ≡ true → nat_lt b a ≡ true → not (nat_lt n b) ≡ true
higher n a b first second = grind (arith, nat_tests)

pub implied : (a b : Bool) → (b ≡ true → a ≡ true) → (a && b) ≡ b
implied true b gives = refl
implied false true gives = gives refl
implied false false gives = refl

module _ {C : Type 0} where
  abbrev pub AreLow : List (VersionOf C) → Type 0
  AreLow vs = AllByRecursion (λ v. v.num ≤ LAST_VERSION) vs

  pub names_upto : (v w : VersionOf C) → is_before v w ≡ true → is_gt (cmp v.name w.name) ≡ false
  names_upto v w is = by (cmp v.name w.name) refl where
    by : (o : Ordering) → cmp v.name w.name ≡ o → is_gt (cmp v.name w.name) ≡ false
    by Less e = ap is_gt e
    by Equal e = ap is_gt e
    by Greater e = absurd (let no_order : false ≡ true = rw e at is in false≢true no_order)

  pub before_by_name : (v w : VersionOf C) → cmp v.name w.name ≡ Less → is_before v w ≡ true
  before_by_name v w low = rw low refl

  -- what follows a version at a place is after it too
  pub at_later : (s : Spot) (v w : VersionOf C) → at_or_after s v ≡ true → is_before v w ≡ true → at_or_after s w ≡ true
  at_later s v w here before = by (cmp v.name s.name) (cmp v.name w.name) refl refl where
    by : (o p : Ordering) → cmp v.name s.name ≡ o → cmp v.name w.name ≡ p → at_or_after s w ≡ true
    by Less p e f = absurd (let no_place : false ≡ true = rw e at here in false≢true no_place)
    by o Greater e f = absurd (let no_order : false ≡ true = rw f at before in false≢true no_order)
    by Equal Less e f =
        let above : cmp w.name s.name ≡ Greater = reversed s.name w.name Less (nat_list_cmp_total.congr s.name v.name w.name (reversed v.name s.name Equal e) ∙ f) in
        rw above refl
    by Greater Less e f =
        let above : cmp w.name s.name ≡ Greater = reversed s.name w.name Less (nat_list_cmp_total.trans s.name v.name w.name (reversed v.name s.name Greater e) f) in
        rw above refl
    by Equal Equal e f =
        let same : cmp w.name s.name ≡ Equal = sym (nat_list_cmp_total.congr v.name w.name s.name f) ∙ e in
        let lower : nat_lt w.num v.num ≡ true = rw f at before in
        let first : not (nat_lt s.num v.num) ≡ true = rw e at here in
        rw same (higher s.num v.num w.num first lower)
    by Greater Equal e f =
        let above : cmp w.name s.name ≡ Greater = sym (nat_list_cmp_total.congr v.name w.name s.name f) ∙ e in
        rw above refl

  -- the versions at a place and after it are the first of them and those after that
  pub from_place : (s : Spot) (R : List (VersionOf C)) (r : VersionOf C) → InOrder R → find (at_or_after s) R ≡ Some r → filter (at_or_after s) R ≡ r ∷ filter (is_before r) R
  from_place s R r up found =
      first_found (at_or_after s) R r up found
      ∙ ap (λ l. r ∷ l) (filter_same (λ w. at_or_after s w && is_before r w) (is_before r) R (every R))
    where
      every : (vs : List (VersionOf C)) → AllByRecursion (λ w. (at_or_after s w && is_before r w) ≡ is_before r w) vs
      every [] = tt
      every (v ∷ vs) = (implied (at_or_after s v) (is_before r v) (at_later s r v (found_passes (at_or_after s) R r found)), every vs)

-- ---- a folder

module _ {C : Type 0} (prefix : List ℕ) (delimiter : Option (List ℕ)) (given : IsDelimiter delimiter) where
  row_other : (f : List ℕ) (v : VersionOf C) → begins_with f v.name ≡ false → same_folder (folder f) (row_of prefix delimiter v) ≡ false
  row_other f v out = ap (same_folder (folder f)) (row_is prefix delimiter v) ∙ by (folder_of_name prefix delimiter v.name) refl where
    by : (o : Option (List ℕ)) → folder_of_name prefix delimiter v.name ≡ o → same_folder (folder f) (or_file v o) ≡ false
    by None is = refl
    by (Some g) is = ⊎_elim
        (λ (same : bytes_eq f g ≡ true). absurd (false≢true (sym out ∙ ap (λ x. begins_with x v.name) (bytes_are f g same) ∙ (are_folders prefix delimiter given).begins v.name g is)))
        (λ (other : bytes_eq f g ≡ false). other)
        (cases_Bool (bytes_eq f g))

  others_first : (f : List ℕ) (vs : List (VersionOf C)) → AllByRecursion (λ v. begins_with f v.name ≡ false) vs → IsOtherFirst f (shown prefix delimiter vs)
  others_first f [] all = tt
  others_first f (v ∷ vs) all = ⊎_elim
      (λ (is : begins_with prefix v.name ≡ true). rw is (other_first f (row_of prefix delimiter v) (shown prefix delimiter vs) (row_other f v all.0)))
      (λ (out : begins_with prefix v.name ≡ false). rw out (others_first f vs all.1))
      (cases_Bool (begins_with prefix v.name))

  -- after a name that does not begin with the folder none does
  abbrev pub Once : List ℕ → List (VersionOf C) → Type 0
  Once f [] = Unit {0}
  Once f (v ∷ vs) = (begins_with f v.name ≡ false → AllByRecursion (λ w. begins_with f w.name ≡ false) vs) × Once f vs

  abbrev pub InOrPast : List ℕ → VersionOf C → Type 0
  InOrPast f v = begins_with f v.name ≡ false → is_past f v.name ≡ true

  -- a folder stands for all names in it
  pub one_folder : (r : VersionOf C) (f : List ℕ) (vs : List (VersionOf C)) → folder_of_name prefix delimiter r.name ≡ Some f → begins_with prefix f ≡ true → AllByRecursion (InOrPast f) vs → Once f vs
      → before_others (folder f) (shown prefix delimiter vs) ≡ folder f ∷ shown prefix delimiter (filter (λ v. is_past f v.name) vs)
  one_folder r f [] in_it begins all once = refl
  one_folder r f (v ∷ vs) in_it begins all once = ⊎_elim
      (λ (is : begins_with f v.name ≡ true).
      let here : row_of prefix delimiter v ≡ folder f = row_is prefix delimiter v ∙ ap (or_file v) ((are_folders prefix delimiter given).shared r.name v.name f in_it is) in
      let not_past : is_past f v.name ≡ false = ap (λ b. is_lt (cmp f v.name) && not b) is ∙ and_right (is_lt (cmp f v.name)) false refl in
      rw (begins_through prefix f v.name begins is, not_past) (ap (λ r0. before_others (folder f) (before_others r0 (shown prefix delimiter vs))) here ∙ merged f (shown prefix delimiter vs) ∙ one_folder r f vs in_it begins all.1 once.1))
      (λ (out : begins_with f v.name ≡ false).
      let rest = once.0 out in
      let all_past : AllByRecursion (λ w. is_past f w.name ≡ true) (v ∷ vs) = (all.0 out, all_both (InOrPast f) (λ w. begins_with f w.name ≡ false) (λ w. is_past f w.name ≡ true) (λ w gives no_f. gives no_f) vs all.1 rest) in
      in_front f (shown prefix delimiter (v ∷ vs)) (others_first f (v ∷ vs) (out, rest))
      ∙ ap (λ l. folder f ∷ shown prefix delimiter l) (sym (filter_all (λ w. is_past f w.name) (v ∷ vs) all_past)))
      (cases_Bool (begins_with f v.name))

  pub in_or_past : (r : VersionOf C) (f : List ℕ) → begins_with f r.name ≡ true → (v : VersionOf C) → is_before r v ≡ true → InOrPast f v
  in_or_past r f begins v before out = by (cmp f v.name) refl where
    upto : is_gt (cmp f v.name) ≡ false
    upto = upto_upto f r.name v.name (begins_upto f r.name begins) (names_upto r v before)

    by : (o : Ordering) → cmp f v.name ≡ o → is_past f v.name ≡ true
    by Less e = rw (e, out) refl
    by Equal e = absurd (false≢true (sym out ∙ ap (begins_with f) (sym (exact_bytes f v.name e)) ∙ begins_itself f))
    by Greater e = absurd (false≢true (sym upto ∙ ap is_gt e))

  pub once_out : (r : VersionOf C) (f : List ℕ) → begins_with f r.name ≡ true → (vs : List (VersionOf C)) → AllByRecursion (λ v. is_before r v ≡ true) vs → InOrder vs → Once f vs
  once_out r f begins [] after up = tt
  once_out r f begins (v ∷ vs) after up = (λ out. all_from (λ w. is_before v w ≡ true) (λ w. begins_with f w.name ≡ false) (later out) vs up.0, once_out r f begins vs after.1 up.1) where
    later : begins_with f v.name ≡ false → (w : VersionOf C) → is_before v w ≡ true → begins_with f w.name ≡ false
    later out w before = ⊎_elim
        (λ (is : begins_with f w.name ≡ true). absurd (false≢true (sym out ∙ begins_between f r.name v.name w.name begins is (names_upto r v after.0) (names_upto v w before))))
        (λ (no_f : begins_with f w.name ≡ false). no_f)
        (cases_Bool (begins_with f w.name))

  -- what stands after a folder stands after each name in it
  pub past_after : (r : VersionOf C) (f : List ℕ) → begins_with f r.name ≡ true → (w : VersionOf C) → is_past f w.name ≡ true → is_before r w ≡ true
  past_after r f begins w past = before_by_name r w (by (cmp r.name w.name) refl) where
    parts : (is_lt (cmp f w.name) ≡ true) × (not (begins_with f w.name) ≡ true)
    parts = and_parts (is_lt (cmp f w.name)) (not (begins_with f w.name)) past

    inside : is_gt (cmp w.name r.name) ≡ false → begins_with f w.name ≡ true
    inside upto = begins_between f f w.name r.name (begins_itself f) begins (low (cmp f w.name) parts.0) upto where
      low : (o : Ordering) → is_lt o ≡ true → is_gt o ≡ false
      low Less is = refl
      low Equal is = refl
      low Greater is = absurd (false≢true is)

    by : (o : Ordering) → cmp r.name w.name ≡ o → cmp r.name w.name ≡ Less
    by Less e = e
    by Equal e = absurd (false≢true (ap not (sym (inside (ap is_gt (reversed r.name w.name Equal e)))) ∙ parts.1))
    by Greater e = absurd (false≢true (ap not (sym (inside (ap is_gt (reversed r.name w.name Greater e)))) ∙ parts.1))
