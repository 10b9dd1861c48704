-- The spots of the tests' versions.
use Rattle.std.specs.Prelude.{ℕ, List}
use Rattle.version_index.specs.declared.spot.Spot.{Spot}

-- in the bucket 1
abbrev pub spot_at : List ℕ → ℕ → Spot
spot_at name num = record { bucket = 1; name = name; num = num }
