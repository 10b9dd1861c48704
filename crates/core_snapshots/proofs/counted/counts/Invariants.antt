use Rattle.std.specs.Option.{option_copied}
use Rattle.core_snapshots.proofs.Seen.{IsCounted}
use Rattle.core_snapshots.proofs.counted.counts.Given as goal

abbrev pub invariant-loop-version : goal.invariant-loop-version
invariant-loop-version l = IsCounted l.core l.names (option_copied l.last) l.version-iterator
