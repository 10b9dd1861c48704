use Rattle.bench_index.specs.Fresh.{AreBelow}
use Rattle.bench_index.proofs.rows.index_of.Given as goal

abbrev pub invariant-loop-turn : goal.invariant-loop-turn
invariant-loop-turn l = AreBelow l.turn l.index
