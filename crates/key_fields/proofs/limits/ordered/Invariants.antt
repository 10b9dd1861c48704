use Rattle.std.proofs.Common.{◌≡◌, take}
use Rattle.key_fields.specs.Limits.{in_order}
use Rattle.key_fields.proofs.limits.ordered.Given as goal

abbrev pub invariant-loop-number : goal.invariant-loop-number
invariant-loop-number l = l.set.keys ≡ in_order (take l.number-index l.numbers)
