-- What is found in a list.
use Rattle.std.proofs.Common.{◌≡◌, ℕ, ◌<◌, ◌≤◌, ◌==◌, nat_lt, Bool, true, false, not, ◌&&◌, ◌||◌, List, [], ◌∷◌, All, Some, find, unwrap_or, if◌then◌else◌, refl, ap, subst, ◌∙◌, arith}
use Rattle.std.specs.Option.{is_some, is_none}
use Rattle.std.specs.List.{list_any}
use Rattle.std.proofs.lemmas.Bool.{false≢true}
use Rattle.std.proofs.lemmas.Bool.Decides.{nat_tests}
use Rattle.std.proofs.lemmas.Option.{none-some}
use Rattle.std.proofs.lemmas.List.Elements.{All-head, All-tail}
use Rattle.b2_types.specs.declared.bucket.Bucket.{Bucket}
use Rattle.b2_model.specs.Policy.{is_same_name}
use Rattle.b2_model.specs.Plan.{number_end}
use Rattle.b2_model.specs.Stored.{is_number}
use Rattle.sound_states.proofs.Tests.{neither, holds_both, not_equal}
use Rattle.sound_states.proofs.Buckets.{has_name}

pub same_found : {X : Type 0} (x y : X) → Some x ≡ Some y → x ≡ y
same_found x y is = ap (λ o. unwrap_or o x) is

module _ {X : Type 0} (p : X → Bool) where
  -- what is found passes, and has what each has
  pub found_has : (P : X → Type 0) (xs : List X) (x : X) → All P xs → find p xs ≡ Some x → (p x ≡ true) × P x
  found_has P [] x each is = absurd (none-some x is)
  found_has P (y ∷ ys) x each is = here (p y) refl is (found_has P ys x (All-tail P y ys each))
    where
      here : (b : Bool) → p y ≡ b → (if b then Some y else find p ys) ≡ Some x → (find p ys ≡ Some x → (p x ≡ true) × P x) → (p x ≡ true) × P x
      here true passes at rest = let same = same_found y x at in (subst (λ z. p z ≡ true) same passes, subst P same (All-head P y ys each))
      here false passes at rest = rest at

  pub found_passes : (xs : List X) (x : X) → find p xs ≡ Some x → p x ≡ true
  found_passes xs x is = (found_has (λ y. Unit {0}) xs x (λ k d within. tt) is).0

  pub none_found : (xs : List X) → list_any p xs ≡ false → is_none (find p xs) ≡ true
  none_found [] none = refl
  none_found (x ∷ xs) none = let both = neither (p x) (list_any p xs) none in rw both.0 (none_found xs both.1)

  pub some_found : (xs : List X) → list_any p xs ≡ true → is_some (find p xs) ≡ true
  some_found [] there = absurd (false≢true there)
  some_found (x ∷ xs) there = here (p x) there (some_found xs)
    where
      here : (b : Bool) → (b || list_any p xs) ≡ true → (list_any p xs ≡ true → is_some (find p xs) ≡ true) → is_some (if b then Some x else find p xs) ≡ true
      here true there rest = refl
      here false there rest = rest there

  -- what another test finds passes this one
  pub any_of : (q : X → Bool) (xs : List X) (x : X) → find q xs ≡ Some x → p x ≡ true → list_any p xs ≡ true
  any_of q [] x is passes = absurd (none-some x is)
  any_of q (y ∷ ys) x is passes = here (q y) is (any_of q ys x)
    where
      rest_passes : (b : Bool) → list_any p ys ≡ true → (b || list_any p ys) ≡ true
      rest_passes true rest = refl
      rest_passes false rest = rest

      this_passes : (b : Bool) → b ≡ true → (b || list_any p ys) ≡ true
      this_passes true is = refl
      this_passes false is = absurd (false≢true is)

      here : (b : Bool) → (if b then Some y else find q ys) ≡ Some x → (find q ys ≡ Some x → p x ≡ true → list_any p ys ≡ true) → (p y || list_any p ys) ≡ true
      here true at rest = this_passes (p y) (ap p (same_found y x at) ∙ passes)
      here false at rest = rest_passes (p y) (rest at passes)

  pub none_weaker : (q : X → Bool) → ((x : X) → q x ≡ false → p x ≡ false) → (xs : List X) → list_any q xs ≡ false → list_any p xs ≡ false
  none_weaker q weaker [] none = refl
  none_weaker q weaker (x ∷ xs) none = let both = neither (q x) (list_any q xs) none in rw (weaker x both.0) (none_weaker q weaker xs both.1)

  pub none_of_all : (xs : List X) → All (λ x. p x ≡ false) xs → list_any p xs ≡ false
  none_of_all [] each = refl
  none_of_all (x ∷ xs) each = let here : p x ≡ false = All-head (λ x. p x ≡ false) x xs each in rw here (none_of_all xs (All-tail (λ x. p x ≡ false) x xs each))

-- ---- numbers and names

pub a_number : (n : ℕ) → 0 < n → n ≤ number_end → (n == number_end) ≡ false → is_number n ≡ true
a_number n above last apart =
    let zero : not (n == 0) ≡ true = ap not (not_equal n 0 (λ same. absurd (omega (arith, above, same)))) in
    let below : nat_lt n number_end ≡ true = grind (arith, nat_tests, last, apart) in
    holds_both (not (n == 0)) (nat_lt n number_end) zero below

pub unlike : (b a : Bucket) → is_same_name a.name b.name ≡ false → has_name b a ≡ false
unlike b a apart = no_and (not (a.num == b.num)) (is_same_name a.name b.name) apart
  where
    no_and : (x y : Bool) → y ≡ false → (x && y) ≡ false
    no_and true y is = is
    no_and false y is = refl
