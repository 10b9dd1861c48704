use Rattle.std.proofs.Common.{◌≡◌, take}
use Rattle.std.specs.List.{list_any}
use Rattle.b2_types.specs.LifecycleRules.{overlap}
use Rattle.field_kinds.proofs.rules.overlaps_any.Given as goal

abbrev pub invariant-loop-other : goal.invariant-loop-other
invariant-loop-other l = l.found ≡ list_any (overlap l.rule) (take l.other-index l.others)
