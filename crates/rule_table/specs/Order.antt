-- Values in the order of their places.
use Rattle.std.proofs.Common.{◌≡◌, ℕ, zero, suc, ◌+◌, List, [], ◌∷◌, Some, get_or, drop, map, slice_get, ap, arith}

-- so many numbers, from this one on
abbrev pub numbers_from : ℕ → ℕ → List ℕ
numbers_from n zero = []
numbers_from n (suc k) = n ∷ numbers_from (suc n) k

some_same : {E : Type 0} (P : E → ℕ) (x y : E) → Some x ≡ Some y → P x ≡ P y
some_same P x y same = cc same

-- what is found in the list has the place at which it was found
pub found_at : {E : Type 0} (place : E → ℕ) (n k : ℕ) (order : List E) → map place order ≡ numbers_from n k
    → (i : ℕ) (e : E) → slice_get order i ≡ Some e → place e ≡ n + i
found_at place n k [] are i e found = absurd (cc found)
found_at place n zero (x ∷ order) are i e found = absurd (cc are)
found_at place n (suc k) (x ∷ order) are zero e found =
    let first : place x ≡ n = ap (λ xs. get_or xs 0 0) are in
    omega (arith, first, some_same place x e found)
found_at place n (suc k) (x ∷ order) are (suc i) e found =
    let rest = found_at place (suc n) k order (ap (drop 1) are) i e found in
    omega (arith, rest)
