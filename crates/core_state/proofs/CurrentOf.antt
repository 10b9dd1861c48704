-- The current version of a name, found from place to place.
use Rattle.std.proofs.Common.{◌≡◌, ℕ, zero, suc, ◌+◌, ◌≤◌, ◌<◌, ◌&&◌, nat_lt, Bool, true, false, not, List, [], ◌∷◌, None, Some, find, subst, sym, ap, ◌∙◌, ⊎_elim, refl, arith, Less, Equal, Greater}
use Rattle.std.specs.Prelude.{bytes_eq}
use Rattle.std.specs.declared.cmp.Ordering.{Ordering}
use Rattle.std.specs.List.{AllByRecursion}
use Rattle.std.specs.Ordering.{is_gt}
use Rattle.std.specs.Cmp.{tied_itself}
use Rattle.std.specs.Cmp.Lexicographic.{nat_list_cmp_total}
use Rattle.std.proofs.lemmas.Bool.{and_left, and_right, cases_Bool, false≢true}
use Rattle.std.proofs.lemmas.Bool.Decides.{nat_tests}
use Rattle.std.proofs.lemmas.Map.Lookups.{exact_bytes}
use Rattle.b2_types.specs.declared.version.VersionOf.{VersionOf}
use Rattle.b2_model.specs.Current.{current_in}
use Rattle.b2_model.specs.Kinds.{is_start}
use Rattle.b2_model.specs.Rows.{is_before}
use Rattle.version_index.specs.declared.spot.Spot.{Spot}
use Rattle.listing_pages.specs.NameRows.{IsStartBefore, StartsBefore}
use Rattle.listing_pages.specs.Places.{after_version, at_or_after}
use Rattle.listing_pages.proofs.Currents.{counts_for, starts_after}
use Rattle.listing_pages.proofs.Gather.{found_upto}
use Rattle.listing_pages.proofs.InFolders.{bytes_are, bytes_same}
use Rattle.listing_pages.proofs.Names.{cmp}
use Rattle.listing_pages.proofs.Shown.{InOrder, all_from, found_passes}
use Rattle.listing_pages.proofs.Starts.{reversed}
use Rattle.listing_pages.proofs.Turns.{AreLow, names_upto}

none_found : {X : Type 0} (p : X → Bool) (xs : List X) → AllByRecursion (λ x. p x ≡ false) xs → find p xs ≡ None
none_found p [] all = refl
none_found p (x ∷ xs) all = rw all.0 (none_found p xs all.1)

none_lower : (m n : ℕ) → n ≡ 0 → nat_lt m n ≡ false
none_lower m n is = grind (arith, nat_tests)

not_above : (m n : ℕ) → not (nat_lt m n) ≡ true → n ≤ m
not_above m n is = grind (arith, nat_tests)

module _ {C : Type 0} where
  -- a start before the place does not count
  not_counted : (s : Spot) (t : VersionOf C) → IsStartBefore s t → at_or_after s t ≡ false → counts_for s.name t ≡ false
  not_counted s t starts before = ⊎_elim
      (λ (same : bytes_eq t.name s.name ≡ true). and_right (bytes_eq t.name s.name) (not (is_start t.action)) (ap not (starts before (bytes_are t.name s.name same))))
      (λ (other : bytes_eq t.name s.name ≡ false). and_left (bytes_eq t.name s.name) (not (is_start t.action)) other)
      (cases_Bool (bytes_eq t.name s.name))

  -- nothing stands at the place or after it
  pub none_more : (s : Spot) (R : List (VersionOf C)) → StartsBefore s R → find (at_or_after s) R ≡ None → current_in R s.name ≡ None
  none_more s [] starts none = refl
  none_more s (x ∷ xs) starts none = ⊎_elim
      (λ (here : at_or_after s x ≡ true). absurd (cc (rw here at none)))
      (λ (before : at_or_after s x ≡ false). rw (not_counted s x starts.0 before) (none_more s xs starts.1 (rw before at none)))
      (cases_Bool (at_or_after s x))

  -- neither the first that stands there counts nor what follows it
  none_left : (s : Spot) (R : List (VersionOf C)) (v : VersionOf C) → InOrder R → StartsBefore s R → find (at_or_after s) R ≡ Some v
      → counts_for s.name v ≡ false → ((w : VersionOf C) → is_before v w ≡ true → counts_for s.name w ≡ false) → current_in R s.name ≡ None
  none_left s [] v up starts found own later = refl
  none_left s (x ∷ xs) v up starts found own later = ⊎_elim
      (λ (here : at_or_after s x ≡ true).
      let same : x ≡ v = cc (rw here at found) in
      rw (subst (λ y. counts_for s.name y ≡ false) (sym same) own)
      (none_found (counts_for s.name) xs (all_from (λ w. is_before x w ≡ true) (λ w. counts_for s.name w ≡ false) (λ w before. later w (subst (λ y. is_before y w ≡ true) same before)) xs up.0)))
      (λ (before : at_or_after s x ≡ false). rw (not_counted s x starts.0 before) (none_left s xs v up.1 starts.1 (rw before at found) own later))
      (cases_Bool (at_or_after s x))

  -- the first that stands there has another name
  pub other_name : (s : Spot) (R : List (VersionOf C)) (v : VersionOf C) → InOrder R → StartsBefore s R → find (at_or_after s) R ≡ Some v
      → bytes_eq v.name s.name ≡ false → current_in R s.name ≡ None
  other_name s R v up starts found other = none_left s R v up starts found (and_left (bytes_eq v.name s.name) (not (is_start v.action)) other) later where
    here : at_or_after s v ≡ true
    here = found_passes (at_or_after s) R v found

    one : (o : Ordering) → cmp v.name s.name ≡ o → is_gt (cmp v.name s.name) ≡ false → bytes_eq v.name s.name ≡ true
    one Less e upto = absurd (false≢true (sym (found_upto s v here) ∙ ap is_gt (reversed v.name s.name Less e)))
    one Equal e upto = ap (λ n. bytes_eq n s.name) (exact_bytes v.name s.name e) ∙ bytes_same s.name
    one Greater e upto = absurd (false≢true (sym upto ∙ ap is_gt e))

    later : (w : VersionOf C) → is_before v w ≡ true → counts_for s.name w ≡ false
    later w before = ⊎_elim
        (λ (same : bytes_eq w.name s.name ≡ true). absurd (false≢true (sym other ∙ one (cmp v.name s.name) refl (subst (λ n. is_gt (cmp v.name n) ≡ false) (bytes_are w.name s.name same) (names_upto v w before)))))
        (λ (no : bytes_eq w.name s.name ≡ false). and_left (bytes_eq w.name s.name) (not (is_start w.action)) no)
        (cases_Bool (bytes_eq w.name s.name))

  older : (v w : VersionOf C) → v.name ≡ w.name → is_before v w ≡ true → nat_lt w.num v.num ≡ true
  older v w same is = rw (subst (λ n. cmp v.name n ≡ Equal) same (tied_itself nat_list_cmp_total v.name)) at is

  -- it is a start, and no number is below its own
  pub none_below : (s : Spot) (R : List (VersionOf C)) (v : VersionOf C) → InOrder R → StartsBefore s R → find (at_or_after s) R ≡ Some v
      → v.name ≡ s.name → is_start v.action ≡ true → v.num ≡ 0 → current_in R s.name ≡ None
  none_below s R v up starts found name start low = none_left s R v up starts found (and_right (bytes_eq v.name s.name) (not (is_start v.action)) (ap not start)) later where
    later : (w : VersionOf C) → is_before v w ≡ true → counts_for s.name w ≡ false
    later w before = ⊎_elim
        (λ (same : bytes_eq w.name s.name ≡ true). absurd (false≢true (sym (none_lower w.num v.num low) ∙ older v w (name ∙ sym (bytes_are w.name s.name same)) before)))
        (λ (no : bytes_eq w.name s.name ≡ false). and_left (bytes_eq w.name s.name) (not (is_start w.action)) no)
        (cases_Bool (bytes_eq w.name s.name))

  -- it is a start, and the next place has the number below its own
  pub goes_on : (bucket : ℕ) (s : Spot) (R : List (VersionOf C)) (v : VersionOf C) (n : ℕ) → InOrder R → AreLow R → StartsBefore s R → find (at_or_after s) R ≡ Some v
      → v.name ≡ s.name → is_start v.action ≡ true → v.num ≡ n + 1 → StartsBefore (record { bucket = bucket; name = s.name; num = n }) R
  goes_on bucket s R v n up low starts found name start is =
      let num : v.num ≡ suc n = omega (arith, is) in
      subst (λ m. StartsBefore (after_version bucket m (suc n)) R) name
      (subst (λ k. StartsBefore (after_version bucket v.name k) R) num (starts_after bucket s R v up low starts found start))

  -- the number of the place falls
  pub falls : (s : Spot) (R : List (VersionOf C)) (v : VersionOf C) → find (at_or_after s) R ≡ Some v → v.name ≡ s.name → v.num ≤ s.num
  falls s R v found name =
      let here : at_or_after s v ≡ true = found_passes (at_or_after s) R v found in
      not_above s.num v.num (rw (subst (λ n. cmp v.name n ≡ Equal) name (tied_itself nat_list_cmp_total v.name)) at here)
