use Rattle.std.proofs.Common.{◌≡◌, ◌+◌, length, take}
use Rattle.std.specs.Prelude.{sum_by}
use Rattle.lifecycle_pass.proofs.rules.are_long.Given as goal

abbrev pub invariant-loop-rule : goal.invariant-loop-rule
invariant-loop-rule l = l.room + sum_by (λ r. length r.prefix) (take l.rule-index l.rules) ≡ 32768
