use Rattle.std.proofs.Common.{take}
use Rattle.disk_model.specs.Changes.{changes_in}
use Rattle.disk_model.specs.Outcomes.{HasOutcomes}
use Rattle.disk_model.proofs.images.Outcomes.of.Given as goal

abbrev pub invariant-loop-one : goal.invariant-loop-one
invariant-loop-one l = HasOutcomes (changes_in l.area (take l.one-index l.done)) l.outcomes
