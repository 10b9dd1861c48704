-- Where a listing begins.
use Rattle.std.proofs.Common.{◌≡◌, ℕ, ◌<◌, ◌≤◌, ◌&&◌, nat_lt, true, false, not, cond, List, [], ◌∷◌, Option, None, Some, length, sym, ap, ◌∙◌, ⊎_elim, refl, arith, is_lt, Less, Equal, Greater}
use Rattle.std.specs.Prelude.{bytes_eq}
use Rattle.std.specs.declared.cmp.Ordering.{Ordering}
use Rattle.std.specs.Ordering.{is_gt, match_ordering, ordering_reverse}
use Rattle.std.specs.Cmp.{alike_right, tied_itself}
use Rattle.std.specs.Cmp.Lexicographic.{nat_list_cmp_total}
use Rattle.std.proofs.lemmas.Bool.{and_right, cases_Bool, false≢true}
use Rattle.std.proofs.lemmas.Bool.Decides.{nat_tests}
use Rattle.std.proofs.lemmas.Map.Lookups.{exact_bytes}
use Rattle.b2_base.specs.declared.numbers.TheConstants.{LAST_VERSION}
use Rattle.b2_types.specs.declared.version.VersionOf.{VersionOf}
use Rattle.b2_model.specs.Checks.{some_and}
use Rattle.b2_model.specs.Pages.{Row, file, folder, is_from, or_file, row_name}
use Rattle.name_rules.specs.Folder.{begins_with, folder_in}
use Rattle.listing_pages.specs.Orders.{is_past}
use Rattle.listing_pages.specs.Places.{at_number, at_or_after, first_of_name, in_folder}
use Rattle.listing_pages.proofs.Names.{at_first, at_folder, begins_between, begins_from, begins_upto, cmp, turned}
use Rattle.listing_pages.proofs.InFolders.{AreFolders, begins_folder, bytes_are, bytes_same, same_folder_too}

-- ---- orders of names

pub reversed : (a b : List ℕ) (o : Ordering) → cmp a b ≡ o → cmp b a ≡ ordering_reverse o
reversed a b o is = nat_list_cmp_total.antisymm b a ∙ ap ordering_reverse is

by_order : (a b c : List ℕ) (o : Ordering) → cmp b c ≡ o → cmp a b ≡ Less → is_gt o ≡ false → cmp a c ≡ Less
by_order a b c Less is low upto = nat_list_cmp_total.trans a b c low is
by_order a b c Equal is low upto = sym (alike_right nat_list_cmp_total b c a is) ∙ low
by_order a b c Greater is low upto = absurd (false≢true (sym upto))

pub less_upto : (a b c : List ℕ) → cmp a b ≡ Less → is_gt (cmp b c) ≡ false → cmp a c ≡ Less
less_upto a b c low upto = by_order a b c (cmp b c) refl low upto

by_first : (a b c : List ℕ) (o : Ordering) → cmp a b ≡ o → is_gt o ≡ false → cmp b c ≡ Less → cmp a c ≡ Less
by_first a b c Less is upto low = nat_list_cmp_total.trans a b c is low
by_first a b c Equal is upto low = nat_list_cmp_total.congr a b c is ∙ low
by_first a b c Greater is upto low = absurd (false≢true (sym upto))

pub upto_less : (a b c : List ℕ) → is_gt (cmp a b) ≡ false → cmp b c ≡ Less → cmp a c ≡ Less
upto_less a b c upto low = by_first a b c (cmp a b) refl upto low

upto_by : (a b c : List ℕ) (o : Ordering) → cmp a b ≡ o → is_gt o ≡ false → is_gt (cmp b c) ≡ false → is_gt (cmp a c) ≡ false
upto_by a b c Less is upto more = ap is_gt (less_upto a b c is more)
upto_by a b c Equal is upto more = ap is_gt (nat_list_cmp_total.congr a b c is) ∙ more
upto_by a b c Greater is upto more = absurd (false≢true (sym upto))

pub upto_upto : (a b c : List ℕ) → is_gt (cmp a b) ≡ false → is_gt (cmp b c) ≡ false → is_gt (cmp a c) ≡ false
upto_upto a b c first second = upto_by a b c (cmp a b) refl first second

pub not_above : (a b : List ℕ) → is_lt (cmp a b) ≡ false → is_gt (cmp b a) ≡ false
not_above a b is = by (cmp a b) refl is where
  by : (o : Ordering) → cmp a b ≡ o → is_lt o ≡ false → is_gt (cmp b a) ≡ false
  by Less e no_less = absurd (false≢true (sym no_less))
  by Equal e no_less = ap is_gt (reversed a b Equal e)
  by Greater e no_less = ap is_gt (reversed a b Greater e)

pub begins_itself : (f : List ℕ) → begins_with f f ≡ true
begins_itself [] = refl
begins_itself (b ∷ bs) = begins_from b b bs bs refl (begins_itself bs)

-- a folder of a name before the start stands before it
folder_below : (start g t : List ℕ) → begins_with g t ≡ true → cmp start t ≡ Greater → cmp start g ≡ Greater
folder_below start g t begins above = reversed g start Less (upto_less g t start (begins_upto g t begins) (reversed start t Greater above))

-- a folder before the start, of a name that is not, begins the start
start_in : (start g t : List ℕ) → begins_with g t ≡ true → is_gt (cmp start t) ≡ false → cmp start g ≡ Greater → begins_with g start ≡ true
start_in start g t begins upto above = begins_between g g start t (begins_itself g) begins (ap is_gt (reversed start g Greater above)) upto

no_number : (num : Option ℕ) → not (some_and (λ n. nat_lt n 0) num) ≡ true
no_number None = refl
no_number (Some n) = let none : nat_lt n 0 ≡ false = grind (arith, nat_tests) in ap not none

module _ (C : Type 0) (start : List ℕ) (num : Option ℕ) where
  from_less : (r : Row C) → cmp start (row_name r) ≡ Less → is_from start num r ≡ true
  from_less r is = rw (reversed start (row_name r) Less is) refl

  from_greater : (r : Row C) → cmp start (row_name r) ≡ Greater → is_from start num r ≡ false
  from_greater r is = rw (reversed start (row_name r) Greater is) refl

  pub from_folder : (g : List ℕ) → is_from {C = C} start num (folder g) ≡ not (is_gt (cmp start g))
  from_folder g =
      ap (λ b. match_ordering (cmp g start) false b true) (no_number num)
      ∙ ap (λ o. match_ordering o false true true) (nat_list_cmp_total.antisymm g start)
      ∙ turned (cmp start g)

  -- a start that is in no folder drops none that holds later names
  kept_folder_of : (g t : List ℕ) (o : Ordering) → cmp start t ≡ o → begins_with g t ≡ true → (begins_with g start ≡ true → cmp start g ≡ Greater → ⊥) → is_from {C = C} start num (folder g) ≡ not (is_gt o)
  kept_folder_of g t o is begins no_folder = from_folder g ∙ by (cmp start g) o refl is where
    by : (p q : Ordering) → cmp start g ≡ p → cmp start t ≡ q → not (is_gt p) ≡ not (is_gt q)
    by Less Less e f = refl
    by Less Equal e f = refl
    by Less Greater e f = absurd (let above = folder_below start g t begins f in let bad : Less ≡ Greater = sym e ∙ above in cc)
    by Equal Less e f = refl
    by Equal Equal e f = refl
    by Equal Greater e f = absurd (let above = folder_below start g t begins f in let bad : Equal ≡ Greater = sym e ∙ above in cc)
    by Greater Less e f = absurd (no_folder (start_in start g t begins (ap is_gt f) e) e)
    by Greater Equal e f = absurd (no_folder (start_in start g t begins (ap is_gt f) e) e)
    by Greater Greater e f = refl

-- ---- the place and the start

same_some : {a b : List ℕ} → Some a ≡ Some b → a ≡ b
same_some is = cc

no_some : {b : List ℕ} → None ≡ Some b → ⊥
no_some is = cc

other_order : {o : Ordering} → o ≡ Less → o ≡ Greater → ⊥
other_order first second = let bad : Less ≡ Greater = sym first ∙ second in cc

equal_order : {o : Ordering} → o ≡ Equal → o ≡ Greater → ⊥
equal_order first second = let bad : Equal ≡ Greater = sym first ∙ second in cc

-- a folder that is not the start and begins it stands before it
folder_first : (f start : List ℕ) → begins_with f start ≡ true → bytes_eq f start ≡ false → cmp f start ≡ Less
folder_first f start begins other = by (cmp f start) refl where
  by : (o : Ordering) → cmp f start ≡ o → cmp f start ≡ Less
  by Less is = is
  by Equal is = absurd (false≢true (sym other ∙ ap (bytes_eq f) (sym (exact_bytes f start is)) ∙ bytes_same f))
  by Greater is = absurd (false≢true (sym (begins_upto f start begins) ∙ ap is_gt is))

is_less : (o : Ordering) → is_lt o ≡ true → o ≡ Less
is_less Less is = refl
is_less Equal is = absurd (false≢true is)
is_less Greater is = absurd (false≢true is)

module _ {C : Type 0} (prefix : List ℕ) (folder_by : List ℕ → Option (List ℕ)) (are : AreFolders prefix folder_by) (bucket : ℕ) (start : List ℕ) (num : Option ℕ) (v : VersionOf C) (low : v.num ≤ LAST_VERSION) where
  before_prefix : (f : Option (List ℕ)) → folder_by v.name ≡ f → cmp start prefix ≡ Less → begins_with prefix v.name ≡ true → is_from start num (or_file v f) ≡ at_or_after (first_of_name bucket prefix) v
  before_prefix None is below begins =
      from_less C start num (file v) (less_upto start prefix v.name below (begins_upto prefix v.name begins))
      ∙ sym (at_first bucket prefix v low ∙ ap not (begins_upto prefix v.name begins))
  before_prefix (Some g) is below begins =
      from_less C start num (folder g) (less_upto start prefix g below (begins_upto prefix g (are.prefixed v.name g is begins)))
      ∙ sym (at_first bucket prefix v low ∙ ap not (begins_upto prefix v.name begins))

  number_file : (n : Option ℕ) → is_from start n (file v) ≡ at_or_after (at_number bucket start n) v
  number_file None = ap (λ o. match_ordering o false true true) (nat_list_cmp_total.antisymm v.name start) ∙ turned (cmp start v.name) ∙ sym (at_first bucket start v low)
  number_file (Some n) = refl

  number_other : (n : Option ℕ) (o : Ordering) → cmp start v.name ≡ o → (o ≡ Equal → ⊥) → at_or_after (at_number bucket start n) v ≡ not (is_gt o)
  number_other None o is other = at_first bucket start v low ∙ ap (λ p. not (is_gt p)) is
  number_other (Some n) Less is other = rw (reversed start v.name Less is) refl
  number_other (Some n) Equal is other = absurd (other refl)
  number_other (Some n) Greater is other = rw (reversed start v.name Greater is) refl

  file_other : (o : Ordering) → cmp start v.name ≡ o → (o ≡ Equal → ⊥) → is_from start num (file v) ≡ not (is_gt o)
  file_other Less is other = from_less C start num (file v) is
  file_other Equal is other = absurd (other refl)
  file_other Greater is other = from_greater C start num (file v) is

  -- the start is not the version's name, where their folders differ
  apart : (f g : Option (List ℕ)) → folder_by start ≡ f → folder_by v.name ≡ g → (f ≡ g → ⊥) → cmp start v.name ≡ Equal → ⊥
  apart f g first second other is = other (sym first ∙ ap folder_by (exact_bytes start v.name is) ∙ second)

  in_no_folder : (g : Option (List ℕ)) → folder_by start ≡ None → folder_by v.name ≡ g → is_from start num (or_file v g) ≡ at_or_after (at_number bucket start num) v
  in_no_folder None none is = number_file num
  in_no_folder (Some g) none is =
      kept_folder_of C start num g v.name (cmp start v.name) refl (are.begins v.name g is) (λ begins above. no_some (sym none ∙ are.shared v.name start g is begins))
      ∙ sym (number_other num (cmp start v.name) refl (apart None (Some g) none is no_some))

  at_folder_name : (f : List ℕ) (g : Option (List ℕ)) → f ≡ start → folder_by start ≡ Some f → folder_by v.name ≡ g → is_from start num (or_file v g) ≡ at_or_after (first_of_name bucket start) v
  at_folder_name f None same in_it is = file_other (cmp start v.name) refl (apart (Some f) None in_it is (λ e. no_some (sym e))) ∙ sym (at_first bucket start v low)
  at_folder_name f (Some g) same in_it is =
      kept_folder_of C start num g v.name (cmp start v.name) refl (are.begins v.name g is)
      (λ begins above. let one : g ≡ start = sym (same_some (sym in_it ∙ are.shared v.name start g is begins)) ∙ same in equal_order (ap (cmp start) one ∙ tied_itself nat_list_cmp_total start) above)
      ∙ sym (at_first bucket start v low)

  -- names that are not in the folder
  past_other : (f : List ℕ) (o : Ordering) → cmp start v.name ≡ o → begins_with f start ≡ true → cmp f start ≡ Less → begins_with f v.name ≡ false → is_past f v.name ≡ not (is_gt o)
  past_other f Less is begins below out = rw (less_upto f start v.name below (ap is_gt is), out) refl
  past_other f Equal is begins below out = absurd (false≢true (sym out ∙ ap (begins_with f) (sym (exact_bytes start v.name is)) ∙ begins))
  past_other f Greater is begins below out = ap (λ b. b && not (begins_with f v.name)) (by (cmp f v.name) refl) where
    by : (o : Ordering) → cmp f v.name ≡ o → is_lt (cmp f v.name) ≡ false
    by Less e = absurd (false≢true (sym out ∙ begins_between f f v.name start (begins_itself f) begins (ap is_gt e) (ap is_gt (reversed start v.name Greater is))))
    by Equal e = ap is_lt e
    by Greater e = ap is_lt e

  inside_folder : (f : List ℕ) (g : Option (List ℕ)) → bytes_eq f start ≡ false → folder_by start ≡ Some f → folder_by v.name ≡ g → is_from start num (or_file v g) ≡ is_past f v.name
  inside_folder f None other in_it is =
      let begins = are.begins start f in_it in
      let below = folder_first f start begins other in
      let out : begins_with f v.name ≡ false = ⊎_elim (λ (in_f : begins_with f v.name ≡ true). absurd (no_some (sym is ∙ are.shared start v.name f in_it in_f))) (λ (out_f : begins_with f v.name ≡ false). out_f) (cases_Bool (begins_with f v.name)) in
      file_other (cmp start v.name) refl (apart (Some f) None in_it is (λ e. no_some (sym e))) ∙ sym (past_other f (cmp start v.name) refl begins below out)
  inside_folder f (Some g) other in_it is =
      let begins = are.begins start f in_it in
      let below = folder_first f start begins other in
      ⊎_elim
      (λ (in_f : begins_with f v.name ≡ true).
      let one : g ≡ f = same_some (sym is ∙ are.shared start v.name f in_it in_f) in
      from_folder C start num g ∙ ap (λ x. not (is_gt (cmp start x))) one ∙ ap (λ o. not (is_gt o)) (reversed f start Less below)
      ∙ sym (ap (λ b. is_lt (cmp f v.name) && not b) in_f ∙ and_right (is_lt (cmp f v.name)) false refl))
      (λ (out : begins_with f v.name ≡ false).
      kept_folder_of C start num g v.name (cmp start v.name) refl (are.begins v.name g is)
      (λ in_start above. let one : g ≡ f = sym (same_some (sym in_it ∙ are.shared v.name start g is in_start)) in false≢true (sym out ∙ ap (λ x. begins_with x v.name) (sym one) ∙ are.begins v.name g is))
      ∙ sym (past_other f (cmp start v.name) refl begins below out))
      (cases_Bool (begins_with f v.name))

  not_before : (f : Option (List ℕ)) → folder_by start ≡ f → is_from start num (or_file v (folder_by v.name)) ≡ at_or_after (in_folder bucket start num f) v
  not_before None is = in_no_folder (folder_by v.name) is refl
  not_before (Some f) is = ⊎_elim
      (λ (same : bytes_eq f start ≡ true). rw same (at_folder_name f (folder_by v.name) (bytes_are f start same) is refl))
      (λ (other : bytes_eq f start ≡ false). rw other (inside_folder f (folder_by v.name) other is refl ∙ sym (at_folder bucket f v low (are.some start f is))))
      (cases_Bool (bytes_eq f start))

  -- the rows from the start on are those of the versions from the place on
  pub kept_at : begins_with prefix v.name ≡ true → is_from start num (or_file v (folder_by v.name)) ≡ at_or_after (cond (is_lt (cmp start prefix)) (first_of_name bucket prefix) (in_folder bucket start num (folder_by start))) v
  kept_at begins = ⊎_elim
      (λ (below : is_lt (cmp start prefix) ≡ true). rw below (before_prefix (folder_by v.name) refl (is_less (cmp start prefix) below) begins))
      (λ (other : is_lt (cmp start prefix) ≡ false). rw other (not_before (folder_by start) refl))
      (cases_Bool (is_lt (cmp start prefix)))

-- ---- a start and a folder

pub start_inside : (C : Type 0) (prefix delimiter start f : List ℕ) (num : Option ℕ) → 0 < length delimiter → folder_in prefix delimiter start ≡ Some f → (f ≡ start → ⊥) → is_from {C = C} start num (folder f) ≡ false
start_inside C prefix delimiter start f num some in_it other =
    let apart : bytes_eq f start ≡ false = ⊎_elim (λ (same : bytes_eq f start ≡ true). absurd (other (bytes_are f start same))) (λ (no_same : bytes_eq f start ≡ false). no_same) (cases_Bool (bytes_eq f start)) in
    from_folder C start num f ∙ ap (λ o. not (is_gt o)) (reversed f start Less (folder_first f start (begins_folder prefix delimiter some start f in_it) apart))

pub start_above : (C : Type 0) (prefix delimiter start name f : List ℕ) (num : Option ℕ) → 0 < length delimiter → folder_in prefix delimiter start ≡ None → folder_in prefix delimiter name ≡ Some f → is_gt (cmp start name) ≡ false → is_from {C = C} start num (folder f) ≡ true
start_above C prefix delimiter start name f num some none in_it upto =
    kept_folder_of C start num f name (cmp start name) refl (begins_folder prefix delimiter some name f in_it) (λ begins above. no_some (sym none ∙ same_folder_too prefix delimiter some name start f in_it begins)) ∙ ap not upto
