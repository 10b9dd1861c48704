use Rattle.lifecycle_pass.proofs.Walks.{NoFile}
use Rattle.lifecycle_pass.proofs.plans.newest.Given as goal

abbrev pub invariant-loop-place : goal.invariant-loop-place
invariant-loop-place l = NoFile l.faces l.place
