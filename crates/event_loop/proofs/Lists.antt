-- Fronts and rests of lists.
use Rattle.std.proofs.Common.{◌≡◌, ◌≤◌, ℕ, List, [], ◌∷◌, length, take, drop, refl, sym, arith}
use Rattle.std.proofs.lemmas.List.{take_all, drop_all}

pub none_left : (at : ℕ) (xs : List ℕ) → length xs ≤ at → [] ≡ drop at xs
none_left at xs short = sym (drop_all at xs short)

pub no_more : (most : ℕ) (xs : List ℕ) → length xs ≤ most → xs ≡ take most xs
no_more most xs short = sym (take_all most xs short)

pub nothing_in : {X : Type 0} (xs : List X) → length xs ≡ 0 → xs ≡ []
nothing_in [] none = refl
nothing_in (x ∷ xs) none = absurd (omega (arith, none))
