use Rattle.index_rows.specs.OwnRows.{AreOwn}
use Rattle.bench_index.specs.Fresh.{AreBelow}
use Rattle.bench_index.proofs.versions.versions_of.Given as goal

abbrev pub invariant-loop-turn : goal.invariant-loop-turn
invariant-loop-turn l = record { below : AreBelow l.turn l.index; own : AreOwn l.index }
