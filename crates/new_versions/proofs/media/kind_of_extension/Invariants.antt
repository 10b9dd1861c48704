use Rattle.std.proofs.Common.{◌≡◌, ℕ, ◌<◌, ◌≤◌, ◌-◌, false, length, map, bytes_eq, slice_index_or, []}
use Rattle.std.specs.Char.{to_ascii_lowercase}
use Rattle.rule_table.specs.FileKind.{kind_names}
use Rattle.new_versions.proofs.media.kind_of_extension.Given as goal

abbrev pub invariant-kinds : goal.invariant-kinds
invariant-kinds l = record {
  within : l.at ≤ length l.names;
  none : (k : ℕ) → k < l.at → bytes_eq (slice_index_or kind_names k []) (map to_ascii_lowercase l.extension) ≡ false;
}

abbrev pub decreases-kinds : goal.decreases-kinds
decreases-kinds l = length l.names - l.at
