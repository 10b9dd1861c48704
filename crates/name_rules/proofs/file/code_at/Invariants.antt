use Rattle.std.proofs.Common.{length, ◌-◌, ◌≤◌, ◌<◌, ℕ, slice_index}
use Rattle.name_rules.specs.FileName.{IsNoCode}
use Rattle.name_rules.proofs.file.code_at.Given as goal

abbrev pub invariant-bytes : goal.invariant-bytes
invariant-bytes l = record {
  within : l.at ≤ length l.bytes;
  before : (i : ℕ) → i < l.at → IsNoCode (slice_index l.bytes i);
}

abbrev pub decreases-bytes : goal.decreases-bytes
decreases-bytes l = length l.bytes - l.at
