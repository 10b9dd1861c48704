-- Which version of a name counts, found from a place on.
use Rattle.std.proofs.Common.{◌≡◌, ℕ, zero, suc, ◌≤◌, ◌==◌, ◌&&◌, nat_lt, Bool, true, false, not, List, [], ◌∷◌, ◌++◌, Option, None, Some, find, subst, sym, ap, ◌∙◌, ⊎_elim, refl, arith, Less, Equal, Greater}
use Rattle.std.specs.Prelude.{bytes_eq}
use Rattle.std.specs.declared.cmp.Ordering.{Ordering}
use Rattle.std.specs.List.{AllByRecursion}
use Rattle.std.specs.Ordering.{is_gt}
use Rattle.std.specs.Cmp.{tied_itself}
use Rattle.std.specs.Cmp.Lexicographic.{nat_list_cmp_total}
use Rattle.std.proofs.lemmas.Bool.{and_left, and_parts, and_right, cases_Bool, eqb-true, false≢true}
use Rattle.std.proofs.lemmas.Bool.Decides.{nat_tests}
use Rattle.std.proofs.lemmas.Map.Lookups.{exact_bytes}
use Rattle.b2_base.specs.declared.numbers.TheConstants.{LAST_VERSION}
use Rattle.b2_types.specs.declared.version.VersionOf.{VersionOf}
use Rattle.b2_model.specs.Checks.{some_and}
use Rattle.b2_model.specs.Current.{current_in}
use Rattle.b2_model.specs.Kinds.{is_start, is_upload}
use Rattle.b2_model.specs.Pages.{is_current}
use Rattle.b2_model.specs.Rows.{is_before}
use Rattle.version_index.specs.declared.spot.Spot.{Spot}
use Rattle.listing_pages.specs.NameRows.{IsStartBefore, StartsBefore, is_visible}
use Rattle.listing_pages.specs.Places.{after_version, at_or_after, first_of_name}
use Rattle.listing_pages.proofs.Gather.{found_upto}
use Rattle.listing_pages.proofs.InFolders.{bytes_are, bytes_same}
use Rattle.listing_pages.proofs.Names.{at_first, at_version, cmp}
use Rattle.listing_pages.proofs.Shown.{InOrder, all_both, all_from, found_passes}
use Rattle.listing_pages.proofs.Starts.{reversed}
use Rattle.listing_pages.proofs.Turns.{AreLow}

-- the first of a test is the first of a narrower one, where nothing before it passes that
pub first_of_both : {X : Type 0} (p q : X → Bool) (xs : List X) (r : X) → find p xs ≡ Some r → AllByRecursion (λ x. p x ≡ false → q x ≡ false) xs → q r ≡ true → find q xs ≡ Some r
first_of_both p q [] r found all is = cc
first_of_both p q (x ∷ xs) r found all is = ⊎_elim
    (λ (here : p x ≡ true). let same : x ≡ r = cc (rw here at found) in rw (subst (λ y. q y ≡ true) (sym same) is) (ap Some same))
    (λ (before : p x ≡ false). rw (all.0 before) (first_of_both p q xs r (rw before at found) all.1 is))
    (cases_Bool (p x))

pub same_number : (n : ℕ) → (n == n) ≡ true
same_number n = grind (arith, nat_tests)

module _ {C : Type 0} where
  pub first_starts : (bucket : ℕ) (name : List ℕ) (R : List (VersionOf C)) → AreLow R → StartsBefore (first_of_name bucket name) R
  first_starts bucket name R low = all_from (λ v. v.num ≤ LAST_VERSION) (IsStartBefore (first_of_name bucket name)) (λ t is before same.
      absurd (false≢true (sym before ∙ at_first bucket name t is ∙ ap (λ n. not (is_gt (cmp name n))) same ∙ ap (λ o. not (is_gt o)) (tied_itself nat_list_cmp_total name)))) R low

  -- the test for the current version of a name
  abbrev pub counts_for : List ℕ → VersionOf C → Bool
  counts_for name v = bytes_eq v.name name && not (is_start v.action)

  pub none_before : (s : Spot) (r : VersionOf C) → at_or_after s r ≡ true → (t : VersionOf C) → IsStartBefore s t → at_or_after s t ≡ false → counts_for r.name t ≡ false
  none_before s r here t starts before = ⊎_elim
      (λ (same : bytes_eq t.name r.name ≡ true).
      let one = bytes_are t.name r.name same in
      let upto : is_gt (cmp s.name t.name) ≡ false = subst (λ n. is_gt (cmp s.name n) ≡ false) (sym one) (found_upto s r here) in
      and_right (bytes_eq t.name r.name) (not (is_start t.action)) (ap not (starts before (by (cmp s.name t.name) refl upto))))
      (λ (other : bytes_eq t.name r.name ≡ false). and_left (bytes_eq t.name r.name) (not (is_start t.action)) other)
      (cases_Bool (bytes_eq t.name r.name))
    where
      by : (o : Ordering) → cmp s.name t.name ≡ o → is_gt (cmp s.name t.name) ≡ false → t.name ≡ s.name
      by Less e upto = absurd (let later : at_or_after s t ≡ true = rw (reversed s.name t.name Less e) refl in false≢true (sym before ∙ later))
      by Equal e upto = sym (exact_bytes s.name t.name e)
      by Greater e upto = absurd (false≢true (sym upto ∙ ap is_gt e))

  -- the first row from a place on that is no start is the current version of its name
  pub current_is : (s : Spot) (R : List (VersionOf C)) (r : VersionOf C) → StartsBefore s R → find (at_or_after s) R ≡ Some r → is_start r.action ≡ false → current_in R r.name ≡ Some r
  current_is s R r starts found no_start =
      let here = found_passes (at_or_after s) R r found in
      first_of_both (at_or_after s) (counts_for r.name) R r found
      (all_from (IsStartBefore s) (λ t. at_or_after s t ≡ false → counts_for r.name t ≡ false) (none_before s r here) R starts)
      (ap (λ b. b && not (is_start r.action)) (bytes_same r.name) ∙ ap not no_start)

  -- of the first that is found, there is no other at its place
  pub only_first : (p : VersionOf C → Bool) (R : List (VersionOf C)) (r : VersionOf C) → InOrder R → find p R ≡ Some r → AllByRecursion (λ t. p t ≡ true → is_before r t ≡ false → t ≡ r) R
  only_first p [] r up found = tt
  only_first p (x ∷ xs) r up found = ⊎_elim
      (λ (here : p x ≡ true).
      let same : x ≡ r = cc (rw here at found) in
      (λ is out. same, all_from (λ w. is_before x w ≡ true) (λ t. p t ≡ true → is_before r t ≡ false → t ≡ r) (λ w before is out. absurd (false≢true (sym out ∙ subst (λ y. is_before y w ≡ true) same before))) xs up.0))
      (λ (before : p x ≡ false).
      (λ is out. absurd (false≢true (sym before ∙ is)), only_first p xs r up.1 (rw before at found)))
      (cases_Bool (p x))

  -- after a start the next place has only starts before it
  starts_at : (bucket : ℕ) (s : Spot) (R : List (VersionOf C)) (r : VersionOf C) (n : ℕ) → r.num ≡ n → InOrder R → AreLow R → StartsBefore s R → find (at_or_after s) R ≡ Some r → is_start r.action ≡ true → StartsBefore (after_version bucket r.name n) R
  starts_at bucket s R r zero is up low starts found start = first_starts bucket (r.name ++ 0 ∷ []) R low
  starts_at bucket s R r (suc n) is up low starts found start =
      all_both (λ t. (v : t.num ≤ LAST_VERSION) → at_or_after s t ≡ true → is_before r t ≡ false → t ≡ r) (λ t. (t.num ≤ LAST_VERSION) × IsStartBefore s t) (IsStartBefore (after_version bucket r.name (suc n))) each R
      (all_from (λ t. at_or_after s t ≡ true → is_before r t ≡ false → t ≡ r) (λ t. (v : t.num ≤ LAST_VERSION) → at_or_after s t ≡ true → is_before r t ≡ false → t ≡ r) (λ t f v. f) R (only_first (at_or_after s) R r up found))
      (all_both (λ t. t.num ≤ LAST_VERSION) (IsStartBefore s) (λ t. (t.num ≤ LAST_VERSION) × IsStartBefore s t) (λ t a b. (a, b)) R low starts)
    where
      here : at_or_after s r ≡ true
      here = found_passes (at_or_after s) R r found

      each : (t : VersionOf C) → ((v : t.num ≤ LAST_VERSION) → at_or_after s t ≡ true → is_before r t ≡ false → t ≡ r) → (t.num ≤ LAST_VERSION) × IsStartBefore s t → IsStartBefore (after_version bucket r.name (suc n)) t
      each t one both before same =
          let not_after : is_before r t ≡ false = sym (at_version bucket r t both.0) ∙ ap (λ k. at_or_after (after_version bucket r.name k) t) is ∙ before in
          ⊎_elim
          (λ (at_it : at_or_after s t ≡ true). subst (λ v. is_start v.action ≡ true) (sym (one both.0 at_it not_after)) start)
          (λ (earlier : at_or_after s t ≡ false). start_of t both.1 earlier same)
          (cases_Bool (at_or_after s t))
        where
          start_of : (u : VersionOf C) → IsStartBefore s u → at_or_after s u ≡ false → u.name ≡ r.name → is_start u.action ≡ true
          start_of u f earlier one_name = starts_by (is_start u.action) refl (none_before s r here u f earlier) one_name where
            starts_by : (b : Bool) → is_start u.action ≡ b → counts_for r.name u ≡ false → u.name ≡ r.name → is_start u.action ≡ true
            starts_by true e out same_name = e
            starts_by false e out same_name = absurd (false≢true (sym out ∙ ap (λ m. bytes_eq m r.name && not (is_start u.action)) same_name ∙ ap (λ b. b && not (is_start u.action)) (bytes_same r.name) ∙ ap not e))

  pub starts_after : (bucket : ℕ) (s : Spot) (R : List (VersionOf C)) (r : VersionOf C) → InOrder R → AreLow R → StartsBefore s R → find (at_or_after s) R ≡ Some r → is_start r.action ≡ true → StartsBefore (after_version bucket r.name r.num) R
  starts_after bucket s R r up low starts found start = starts_at bucket s R r r.num refl up low starts found start

  -- ---- visible versions

  pub visible_is : (R : List (VersionOf C)) (r : VersionOf C) → current_in R r.name ≡ Some r → is_visible R r ≡ is_upload r.action
  visible_is R r current = ap (λ c. is_upload r.action && some_and (λ w. w.num == r.num) c) current ∙ ap (λ b. is_upload r.action && b) (same_number r.num) ∙ with_true (is_upload r.action) where
    with_true : (b : Bool) → (b && true) ≡ b
    with_true true = refl
    with_true false = refl

  -- no older version of the name is visible
  pub older_hidden : (R : List (VersionOf C)) (r t : VersionOf C) → current_in R r.name ≡ Some r → is_before r t ≡ true → r.name ≡ t.name → is_visible R t ≡ false
  older_hidden R r t current before same = and_right (is_upload t.action) (is_current R t)
      (ap (λ n. some_and (λ w. w.num == t.num) (current_in R n)) (sym same) ∙ ap (some_and (λ w. w.num == t.num)) current ∙ other r.num t.num (older before)) where
        other : (m n : ℕ) → nat_lt n m ≡ true → (m == n) ≡ false
        other m n low = grind (arith, nat_tests)

        older : is_before r t ≡ true → nat_lt t.num r.num ≡ true
        older is = rw (subst (λ n. cmp r.name n ≡ Equal) same (tied_itself nat_list_cmp_total r.name)) at is

  -- of two visible versions of a name there is one number
  pub one_visible : (R : List (VersionOf C)) (v w : VersionOf C) → is_visible R v ≡ true → is_visible R w ≡ true → v.name ≡ w.name → v.num ≡ w.num
  one_visible R v w first second same =
      let a = (and_parts (is_upload v.action) (is_current R v) first).1 in
      let b = (and_parts (is_upload w.action) (is_current R w) second).1 in
      by (current_in R v.name) a (ap (λ n. some_and (λ u. u.num == w.num) (current_in R n)) same ∙ b) where
        by : (o : Option (VersionOf C)) → some_and (λ u. u.num == v.num) o ≡ true → some_and (λ u. u.num == w.num) o ≡ true → v.num ≡ w.num
        by None x y = absurd (false≢true x)
        by (Some c) x y = sym (eqb-true c.num v.num x) ∙ eqb-true c.num w.num y
