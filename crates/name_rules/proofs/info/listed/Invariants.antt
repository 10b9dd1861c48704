use Rattle.std.proofs.Common.{◌≡◌}
use Rattle.name_rules.proofs.info.listed.Given as goal

abbrev pub invariant-pairs : goal.invariant-pairs
invariant-pairs l = l.list.items ≡ l.yielded
