-- Rows of pages, and folders that stand for several versions.
use Rattle.std.proofs.Common.{◌≡◌, ℕ, ◌&&◌, Bool, true, false, cond, List, [], ◌∷◌, Option, None, Some, filter, find, subst, sym, ap, ◌∙◌, ⊎_elim, refl, arith}
use Rattle.std.specs.Prelude.{bytes_eq}
use Rattle.std.specs.List.{AllByRecursion}
use Rattle.std.specs.Cmp.{tied_itself}
use Rattle.std.specs.Cmp.Lexicographic.{nat_list_cmp_total}
use Rattle.std.proofs.lemmas.Bool.{cases_Bool}
use Rattle.std.proofs.lemmas.Bool.Decides.{nat_tests}
use Rattle.b2_types.specs.declared.version.VersionOf.{VersionOf}
use Rattle.b2_model.specs.Pages.{Row, before_others, file, folder, or_file, row_of, same_folder, with_folders, with_prefix}
use Rattle.b2_model.specs.Rows.{is_before}
use Rattle.listing_pages.specs.PageOf.{folder_of_name}
use Rattle.listing_pages.proofs.InFolders.{bytes_are, bytes_same}

-- ---- filters

module _ {X : Type 0} where
  pub all_from : (P Q : X → Type 0) → ((x : X) → P x → Q x) → (xs : List X) → AllByRecursion P xs → AllByRecursion Q xs
  all_from P Q gives [] all = tt
  all_from P Q gives (x ∷ xs) all = (gives x all.0, all_from P Q gives xs all.1)

  pub all_both : (P Q R : X → Type 0) → ((x : X) → P x → Q x → R x) → (xs : List X) → AllByRecursion P xs → AllByRecursion Q xs → AllByRecursion R xs
  all_both P Q R gives [] all also = tt
  all_both P Q R gives (x ∷ xs) all also = (gives x all.0 also.0, all_both P Q R gives xs all.1 also.1)

  pub all_kept : (P : X → Type 0) (p : X → Bool) (xs : List X) → AllByRecursion P xs → AllByRecursion P (filter p xs)
  all_kept P p [] all = tt
  all_kept P p (x ∷ xs) all = ⊎_elim
      (λ (is : p x ≡ true). rw is (all.0, all_kept P p xs all.1))
      (λ (other : p x ≡ false). rw other (all_kept P p xs all.1))
      (cases_Bool (p x))

  pub passes : (p : X → Bool) (xs : List X) → AllByRecursion (λ x. p x ≡ true) (filter p xs)
  passes p [] = tt
  passes p (x ∷ xs) = ⊎_elim
      (λ (is : p x ≡ true). rw is (is, passes p xs))
      (λ (other : p x ≡ false). rw other (passes p xs))
      (cases_Bool (p x))

  pub filter_same : (p q : X → Bool) (xs : List X) → AllByRecursion (λ x. p x ≡ q x) xs → filter p xs ≡ filter q xs
  filter_same p q [] all = refl
  filter_same p q (x ∷ xs) all = rw (all.0) (ap (λ l. cond (q x) (x ∷ l) l) (filter_same p q xs all.1))

  pub filter_all : (p : X → Bool) (xs : List X) → AllByRecursion (λ x. p x ≡ true) xs → filter p xs ≡ xs
  filter_all p [] all = refl
  filter_all p (x ∷ xs) all = rw (all.0) (ap (λ l. x ∷ l) (filter_all p xs all.1))

  pub filter_none : (p : X → Bool) (xs : List X) → AllByRecursion (λ x. p x ≡ false) xs → filter p xs ≡ []
  filter_none p [] all = refl
  filter_none p (x ∷ xs) all = rw (all.0) (filter_none p xs all.1)

  pub filter_twice : (p q : X → Bool) (xs : List X) → filter p (filter q xs) ≡ filter (λ x. q x && p x) xs
  filter_twice p q [] = refl
  filter_twice p q (x ∷ xs) = ⊎_elim
      (λ (is : q x ≡ true). rw is (ap (λ l. cond (p x) (x ∷ l) l) (filter_twice p q xs)))
      (λ (other : q x ≡ false). rw other (filter_twice p q xs))
      (cases_Bool (q x))

  pub none_found : (p : X → Bool) (xs : List X) → find p xs ≡ None → filter p xs ≡ []
  none_found p [] none = refl
  none_found p (x ∷ xs) none = ⊎_elim
      (λ (is : p x ≡ true). let some : Some x ≡ None = rw is at none in cc)
      (λ (other : p x ≡ false). rw other (none_found p xs (rw other at none)))
      (cases_Bool (p x))

  pub found_passes : (p : X → Bool) (xs : List X) (x : X) → find p xs ≡ Some x → p x ≡ true
  found_passes p [] x found = cc
  found_passes p (y ∷ ys) x found = ⊎_elim
      (λ (is : p y ≡ true). let same : y ≡ x = cc (rw is at found) in subst (λ z. p z ≡ true) same is)
      (λ (other : p y ≡ false). found_passes p ys x (rw other at found))
      (cases_Bool (p y))

-- ---- versions in listing order

module _ {C : Type 0} where
  abbrev pub InOrder : List (VersionOf C) → Type 0
  InOrder [] = Unit {0}
  InOrder (v ∷ vs) = AllByRecursion (λ w. is_before v w ≡ true) vs × InOrder vs

  pub order_kept : (p : VersionOf C → Bool) (vs : List (VersionOf C)) → InOrder vs → InOrder (filter p vs)
  order_kept p [] up = tt
  order_kept p (v ∷ vs) up = ⊎_elim
      (λ (is : p v ≡ true). rw is (all_kept (λ w. is_before v w ≡ true) p vs up.0, order_kept p vs up.1))
      (λ (other : p v ≡ false). rw other (order_kept p vs up.1))
      (cases_Bool (p v))

  not_itself : (v : VersionOf C) → is_before v v ≡ false
  not_itself v = rw (tied_itself nat_list_cmp_total v.name) (grind (arith, nat_tests))

  -- the first of those that pass, and the others after it
  pub first_found : (p : VersionOf C → Bool) (vs : List (VersionOf C)) (r : VersionOf C) → InOrder vs → find p vs ≡ Some r → filter p vs ≡ r ∷ filter (λ w. p w && is_before r w) vs
  first_found p [] r up found = cc
  first_found p (v ∷ vs) r up found = ⊎_elim
      (λ (is : p v ≡ true).
      let same : v ≡ r = cc (rw is at found) in
      subst (λ u. filter p (v ∷ vs) ≡ u ∷ filter (λ w. p w && is_before u w) (v ∷ vs)) same
      (rw (is, not_itself v) (ap (λ l. v ∷ l) (filter_same p (λ w. p w && is_before v w) vs (all_from (λ w. is_before v w ≡ true) (λ w. p w ≡ (p w && is_before v w)) (λ w before. sym (ap (λ b. p w && b) before ∙ with_true (p w))) vs up.0)))))
      (λ (other : p v ≡ false). rw other (first_found p vs r up.1 (rw other at found)))
      (cases_Bool (p v))
    where
      with_true : (b : Bool) → (b && true) ≡ b
      with_true true = refl
      with_true false = refl

  -- ---- rows

  pub dropped : (p : Row C → Bool) (r : Row C) (rs : List (Row C)) → p r ≡ false → filter p (before_others r rs) ≡ filter p rs
  dropped p r [] out = rw out refl
  dropped p r (s ∷ rest) out = ⊎_elim
      (λ (same : same_folder r s ≡ true). rw same refl)
      (λ (other : same_folder r s ≡ false). rw (other, out) refl)
      (cases_Bool (same_folder r s))

  all_before : (Q : Row C → Type 0) (r : Row C) (rs : List (Row C)) → Q r → AllByRecursion Q rs → AllByRecursion Q (before_others r rs)
  all_before Q r [] here all = (here, tt)
  all_before Q r (s ∷ rest) here all = ⊎_elim
      (λ (same : same_folder r s ≡ true). rw same all)
      (λ (other : same_folder r s ≡ false). rw other (here, all))
      (cases_Bool (same_folder r s))

  module _ (prefix : List ℕ) (delimiter : Option (List ℕ)) where
    pub all_rows : (Q : Row C → Type 0) (vs : List (VersionOf C)) → AllByRecursion (λ v. Q (row_of prefix delimiter v)) vs → AllByRecursion Q (with_folders prefix delimiter vs)
    all_rows Q [] all = tt
    all_rows Q (v ∷ vs) all = all_before Q (row_of prefix delimiter v) (with_folders prefix delimiter vs) all.0 (all_rows Q vs all.1)

    -- once a row passes, all later ones do
    abbrev pub PassFrom : (Row C → Bool) → List (VersionOf C) → Type 0
    PassFrom p [] = Unit {0}
    PassFrom p (v ∷ vs) = (p (row_of prefix delimiter v) ≡ true → AllByRecursion (λ w. p (row_of prefix delimiter w) ≡ true) vs) × PassFrom p vs

    -- rows that are left out in front are those of versions that are
    pub left_out : (p : Row C → Bool) (vs : List (VersionOf C)) → PassFrom p vs → filter p (with_folders prefix delimiter vs) ≡ with_folders prefix delimiter (filter (λ v. p (row_of prefix delimiter v)) vs)
    left_out p [] from = refl
    left_out p (v ∷ vs) from = ⊎_elim
        (λ (is : p (row_of prefix delimiter v) ≡ true).
        let rest = from.0 is in
        filter_all p (with_folders prefix delimiter (v ∷ vs)) (all_rows (λ r. p r ≡ true) (v ∷ vs) (is, rest))
        ∙ sym (rw is (ap (λ l. before_others (row_of prefix delimiter v) (with_folders prefix delimiter l)) (filter_all (λ w. p (row_of prefix delimiter w)) vs rest))))
        (λ (out : p (row_of prefix delimiter v) ≡ false).
        dropped p (row_of prefix delimiter v) (with_folders prefix delimiter vs) out ∙ left_out p vs from.1 ∙ sym (rw out refl))
        (cases_Bool (p (row_of prefix delimiter v)))

    abbrev pub shown : List (VersionOf C) → List (Row C)
    shown vs = with_folders prefix delimiter (with_prefix prefix vs)

    pub row_is : (v : VersionOf C) → row_of prefix delimiter v ≡ or_file v (folder_of_name prefix delimiter v.name)
    row_is v = by delimiter where
      by : (d : Option (List ℕ)) → row_of prefix d v ≡ or_file v (folder_of_name prefix d v.name)
      by None = refl
      by (Some d) = refl

  -- ---- a folder that stands for several

  pub file_first : (v : VersionOf C) (rs : List (Row C)) → before_others (file v) rs ≡ file v ∷ rs
  file_first v [] = refl
  file_first v (s ∷ rest) = refl

  pub merged : (f : List ℕ) (rs : List (Row C)) → before_others (folder f) (before_others (folder f) rs) ≡ before_others (folder f) rs
  merged f [] = rw (bytes_same f) refl
  merged f (s ∷ rest) = ⊎_elim
      (λ (same : same_folder (folder f) s ≡ true). rw (same, same) refl)
      (λ (other : same_folder (folder f) s ≡ false). rw (other, bytes_same f) refl)
      (cases_Bool (same_folder (folder f) s))

  -- the first row is not this folder
  abbrev pub IsOtherFirst : List ℕ → List (Row C) → Type 0
  IsOtherFirst f [] = Unit {0}
  IsOtherFirst f (s ∷ rest) = same_folder (folder f) s ≡ false

  pub in_front : (f : List ℕ) (rs : List (Row C)) → IsOtherFirst f rs → before_others (folder f) rs ≡ folder f ∷ rs
  in_front f [] other = refl
  in_front f (s ∷ rest) other = rw other refl

  other_row : (f g : List ℕ) (s : Row C) → bytes_eq f g ≡ false → same_folder (folder g) s ≡ true → same_folder (folder f) s ≡ false
  other_row f g (file v) other same = refl
  other_row f g (folder h) other same = ap (bytes_eq f) (sym (bytes_are g h same)) ∙ other

  pub other_first : (f : List ℕ) (r : Row C) (rs : List (Row C)) → same_folder (folder f) r ≡ false → IsOtherFirst f (before_others r rs)
  other_first f r [] other = other
  other_first f (file v) (s ∷ rest) other = refl
  other_first f (folder g) (s ∷ rest) other = ⊎_elim
      (λ (same : same_folder (folder g) s ≡ true). rw same (other_row f g s other same))
      (λ (apart : same_folder (folder g) s ≡ false). rw apart other)
      (cases_Bool (same_folder (folder g) s))
