use Rattle.std.proofs.Common.{length, ◌-◌, ◌≤◌, ◌<◌, ℕ, slice_index}
use Rattle.name_rules.specs.BucketName.{IsBucketByte}
use Rattle.name_rules.proofs.bucket.odd_byte.Given as goal

abbrev pub invariant-bytes : goal.invariant-bytes
invariant-bytes l = record {
  within : l.at ≤ length l.bytes;
  before : (i : ℕ) → i < l.at → IsBucketByte (slice_index l.bytes i);
}

abbrev pub decreases-bytes : goal.decreases-bytes
decreases-bytes l = length l.bytes - l.at
