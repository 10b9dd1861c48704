use Rattle.std.proofs.Common.{◌≡◌}
use Rattle.key_fields.proofs.limits.listed.Given as goal

abbrev pub invariant-loop-number : goal.invariant-loop-number
invariant-loop-number l = l.list.items ≡ l.yielded
