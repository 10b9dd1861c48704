use Rattle.std.proofs.Common.{◌-◌, ◌≤◌, length}
use Rattle.name_rules.specs.InfoPairs.{IsNew, AllBefore}
use Rattle.name_rules.proofs.info.repeated_key.Given as goal

abbrev pub invariant-pairs : goal.invariant-pairs
invariant-pairs l = (l.at ≤ length l.pairs) × AllBefore (IsNew l.pairs) l.at

abbrev pub decreases-pairs : goal.decreases-pairs
decreases-pairs l = length l.pairs - l.at
