-- Tests that hold, and what they tell.
use Rattle.std.proofs.Common.{◌≡◌, ℕ, ◌<◌, ◌≤◌, ◌==◌, nat_lt, nat_le, Bool, true, false, not, ◌&&◌, ◌||◌, List, [], ◌∷◌, All, Some, bytes_eq, map, find, if◌then◌else◌, refl, sym, ap, ◌∙◌, arith}
use Rattle.std.specs.Option.{is_some, is_none}
use Rattle.std.specs.List.{list_any}
use Rattle.std.proofs.lemmas.Bool.{false≢true}
use Rattle.std.proofs.lemmas.Bool.Decides.{nat_tests}
use Rattle.std.proofs.lemmas.List.Elements.{All-nil, All-cons}

pub both_hold : (a b : Bool) → (a && b) ≡ true → (a ≡ true) × (b ≡ true)
both_hold true b is = (refl, is)
both_hold false b is = absurd (false≢true is)

pub holds_both : (a b : Bool) → a ≡ true → b ≡ true → (a && b) ≡ true
holds_both true b is and = and
holds_both false b is and = absurd (false≢true is)

pub neither : (a b : Bool) → (a || b) ≡ false → (a ≡ false) × (b ≡ false)
neither true b none = absurd (false≢true (sym none))
neither false b none = (refl, none)

pub is_not : (a : Bool) → not a ≡ true → a ≡ false
is_not true is = absurd (false≢true is)
is_not false is = refl

pub equal_numbers : (m n : ℕ) → (m == n) ≡ true → m ≡ n
equal_numbers m n is = grind (arith, nat_tests, is)

pub not_equal : (m n : ℕ) → (m ≡ n → ⊥) → (m == n) ≡ false
not_equal m n apart = grind (arith, nat_tests, apart)

pub apart_numbers : (m n : ℕ) → (m == n) ≡ false → m ≡ n → ⊥
apart_numbers m n is same = grind (arith, nat_tests, is, same)

pub above_zero : (n : ℕ) → not (n == 0) ≡ true → 0 < n
above_zero n is = let apart = is_not (n == 0) is in grind (arith, nat_tests, apart)

pub less : (m n : ℕ) → nat_lt m n ≡ true → m < n
less m n is = grind (arith, nat_tests, is)

pub at_most : (m n : ℕ) → nat_le m n ≡ true → m ≤ n
at_most m n is = grind (arith, nat_tests, is)

-- ---- tests of lists

module _ {X : Type 0} (p : X → Bool) where
  pub none_passes : (xs : List X) → list_any p xs ≡ false → All (λ x. p x ≡ false) xs
  none_passes [] none = All-nil _
  none_passes (x ∷ xs) none = let both = neither (p x) (list_any p xs) none in All-cons (λ x. p x ≡ false) x xs both.0 (none_passes xs both.1)

  pub not_found : (xs : List X) → is_none (find p xs) ≡ true → list_any p xs ≡ false
  not_found [] none = refl
  not_found (x ∷ xs) none = not_here (p x) none (not_found xs)
    where
      not_here : (b : Bool) → is_none (if b then Some x else find p xs) ≡ true → (is_none (find p xs) ≡ true → list_any p xs ≡ false) → (b || list_any p xs) ≡ false
      not_here true none rest = absurd (false≢true none)
      not_here false none rest = rest none

  pub found : (xs : List X) → is_some (find p xs) ≡ true → list_any p xs ≡ true
  found [] there = absurd (false≢true there)
  found (x ∷ xs) there = here (p x) there (found xs)
    where
      here : (b : Bool) → is_some (if b then Some x else find p xs) ≡ true → (is_some (find p xs) ≡ true → list_any p xs ≡ true) → (b || list_any p xs) ≡ true
      here true there rest = refl
      here false there rest = rest there

  pub any_map : {Y : Type 0} (f : Y → X) (ys : List Y) → list_any p (map f ys) ≡ list_any (λ y. p (f y)) ys
  any_map f [] = refl
  any_map f (y ∷ ys) = ap (λ rest. p (f y) || rest) (any_map f ys)

pub any_same : {X : Type 0} (p q : X → Bool) → ((x : X) → p x ≡ q x) → (xs : List X) → list_any p xs ≡ list_any q xs
any_same p q same xs = ap (λ r. list_any r xs) (λ i x. same x i)

-- ---- equal texts

equal_back : (m n : ℕ) → (m == n) ≡ (n == m)
equal_back m n = grind (arith, nat_tests)

pub text_back : (a b : List ℕ) → bytes_eq a b ≡ bytes_eq b a
text_back [] [] = refl
text_back [] (y ∷ b) = refl
text_back (x ∷ a) [] = refl
text_back (x ∷ a) (y ∷ b) = ap (λ same. same && bytes_eq a b) (equal_back x y) ∙ ap (λ same. (y == x) && same) (text_back a b)
