use Rattle.edge_tests.specs.Sound.{IsSound}
use Rattle.edge_tests.proofs.connections.opened.Given as goal

abbrev pub invariant-loop-number : goal.invariant-loop-number
invariant-loop-number l = IsSound l.conns
