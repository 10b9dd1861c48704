-- Places of bytes.
use Rattle.std.specs.Prelude.{ℕ, ◌<◌, List, length, slice_index}

-- P holds of each byte before this one, and not of it
pub record IsFirstOther (P : ℕ → Type 0) (bytes : List ℕ) (at : ℕ) : Type 0 where
  pub within : at < length bytes
  pub other : P (slice_index bytes at) → ⊥
  pub before : (i : ℕ) → i < at → P (slice_index bytes i)
