use Rattle.std.proofs.Common.{◌≡◌, ◌-◌, ◌^◌, min, take}
use Rattle.field_kinds.specs.Rules.{prefix_bytes}
use Rattle.field_kinds.proofs.rules.prefix_bytes.Given as goal

abbrev pub invariant-loop-rule : goal.invariant-loop-rule
invariant-loop-rule l = l.bytes ≡ min (prefix_bytes (take l.rule-index l.rules)) (2 ^ 64 - 1)
