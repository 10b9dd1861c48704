-- Numbers that no row has.
use Rattle.std.specs.Prelude.{ℕ, ◌<◌, List}
use Rattle.std.specs.List.{AllByRecursion}
use Rattle.version_index.specs.declared.spot.Spot.{Spot}

-- the numbers of all rows are below this one
abbrev pub AreBelow : {V : Type 0} → ℕ → List (Spot × V) → Type 0
AreBelow num rows = AllByRecursion (λ r. r.0.num < num) rows
