use Rattle.lifecycle_pass.proofs.Walks.{AllGone}
use Rattle.lifecycle_pass.proofs.plans.all_go.Given as goal

abbrev pub invariant-loop-face : goal.invariant-loop-face
invariant-loop-face l = AllGone l.t l.rule l.faces l.initial.above l.above l.face-index
