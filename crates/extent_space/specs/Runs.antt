-- An area over many takes and returns.
use Rattle.std.specs.Prelude.{◌≡◌, ℕ, Some, List, [], ◌∷◌, ◌⊎◌}
use Rattle.b2_base.specs.declared.extent.Extent.{Extent}
use Rattle.extent_space.specs.Room.{Covers, GivesBack, IsClearOf, IsTaken, Room, Takes, extent_for}

-- an extent is taken, or given back
pub data Change : Type 0 where
  took : Extent → Change
  returned : Extent → Change

-- the byte is in use after these changes, the first of them first
abbrev pub IsUsedAfter : (ℕ → Type 0) → List Change → ℕ → Type 0
IsUsedAfter before [] b = before b
IsUsedAfter before (took e ∷ more) b = IsUsedAfter (λ n. before n ⊎ Covers e n) more b
IsUsedAfter before (returned e ∷ more) b = IsUsedAfter (λ n. before n × IsClearOf e n) more b

-- each take got what first fit gives, and each return gave what was taken
abbrev pub Runs : Room → List Change → Room → Type 0
Runs r [] s = r ≡ s
Runs r (took e ∷ more) s = (m : Room) × (extent_for r e.len ≡ Some e) × Takes r e m × Runs m more s
Runs r (returned e ∷ more) s = (m : Room) × IsTaken r e × GivesBack r e m × Runs m more s
