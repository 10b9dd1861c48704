use Rattle.edge_tests.specs.Sound.{IsSound}
use Rattle.edge_tests.proofs.connections.byte_by_byte.Given as goal

abbrev pub invariant-loop-byte : goal.invariant-loop-byte
invariant-loop-byte l = IsSound l.conns
