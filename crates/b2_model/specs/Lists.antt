-- Lists that stand by number, and small tests of lists.
use Rattle.std.specs.Prelude.{ℕ, Bool, ◌==◌, nat_lt, List, [], ◌∷◌, length, if◌then◌else◌}
use Rattle.std.specs.List.{list_any}

abbrev pub is_empty : {X : Type 0} → List X → Bool
is_empty xs = length xs == 0

-- the number is among these
abbrev pub is_among : List ℕ → ℕ → Bool
is_among numbers n = list_any (λ m. m == n) numbers

-- the item at its place by number
abbrev pub put_by : {X : Type 0} → (X → ℕ) → X → List X → List X
put_by num x [] = x ∷ []
put_by num x (y ∷ ys) = if nat_lt (num x) (num y) then x ∷ y ∷ ys else y ∷ put_by num x ys
