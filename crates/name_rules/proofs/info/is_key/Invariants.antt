use Rattle.std.proofs.Common.{◌-◌, ◌≤◌, ◌<◌, ℕ, length, slice_index}
use Rattle.name_rules.specs.InfoPairs.{IsKeyByte}
use Rattle.name_rules.proofs.info.is_key.Given as goal

abbrev pub invariant-bytes : goal.invariant-bytes
invariant-bytes l = (l.at ≤ length l.key) × ((i : ℕ) → i < l.at → IsKeyByte (slice_index l.key i))

abbrev pub decreases-bytes : goal.decreases-bytes
decreases-bytes l = length l.key - l.at
