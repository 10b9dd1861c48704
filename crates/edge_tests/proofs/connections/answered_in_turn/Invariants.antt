use Rattle.edge_tests.specs.Sound.{IsSound}
use Rattle.edge_tests.proofs.connections.answered_in_turn.Given as goal

abbrev pub invariant-requests : goal.invariant-requests
invariant-requests l = IsSound l.conns
