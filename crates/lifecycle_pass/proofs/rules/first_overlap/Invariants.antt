use Rattle.std.proofs.Common.{◌≡◌, drop}
use Rattle.lifecycle_pass.specs.Rules.{first_overlap}
use Rattle.lifecycle_pass.proofs.Overlaps.{later}
use Rattle.lifecycle_pass.proofs.rules.first_overlap.Given as goal

abbrev pub invariant-loop-place : goal.invariant-loop-place
invariant-loop-place l = first_overlap l.rules ≡ later l.place (first_overlap (drop l.place l.rules))
