use Rattle.std.proofs.Common.{◌≡◌, [], ◌∷◌}
use Rattle.workload.proofs.Turns.{StandsAt}
use Rattle.workload.proofs.make.make_workload.Given as goal

abbrev pub invariant-turns : goal.invariant-turns
invariant-turns l = record {
  timed : StandsAt l.fn.seed l.fn.n l.i l.x l.script.timed.items;
  words : l.script.words.items ≡ 1 ∷ 2 ∷ 3 ∷ 4 ∷ [];
}
