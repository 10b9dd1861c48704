use Rattle.lifecycle_pass.proofs.Walks.{Pushed}
use Rattle.lifecycle_pass.proofs.plans.push_lower.Given as goal

abbrev pub invariant-loop-face : goal.invariant-loop-face
invariant-loop-face l = Pushed l.t l.rule l.faces l.initial.above l.initial.gone.items l.above l.face-index l.gone.items
