-- The rows of a table, which is seen as its names in order.
use Rattle.std.specs.Prelude.{◌≡◌, ◌≢◌, ◌↔◌, ◌<◌, ℕ, List, map, Option, Some, IsSome, AllPairs, slice_get}
use Rattle.std.specs.Borrow.{Bor}

abbrev pub texts : List (Bor (List ℕ)) → List (List ℕ)
texts names = map (λ name. name.now) names

-- no two are the same
abbrev pub AreApart : List (List ℕ) → Type 0
AreApart names = AllPairs (λ a b. a ≢ b) names

-- the places of the values are the numbers below this one
abbrev pub IsFull : {E : Type 0} → (ℕ → Option E) → ℕ → Type 0
IsFull at_place n = (i : ℕ) → IsSome (at_place i) ↔ (i < n)

-- the row at this place has this name
abbrev pub IsRow : List (List ℕ) → ℕ → List ℕ → Type 0
IsRow names place name = slice_get names place ≡ Some name
