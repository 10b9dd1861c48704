use Rattle.index_rows.specs.OwnRows.{AreOwn}
use Rattle.storage_tests.proofs.passes.stored.Given as goal

abbrev pub invariant-loop-name : goal.invariant-loop-name
invariant-loop-name l = AreOwn l.index
