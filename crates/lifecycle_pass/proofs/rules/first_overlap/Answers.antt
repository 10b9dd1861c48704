use Rattle.std.proofs.Common.{sym, arith}
use Rattle.lifecycle_pass.proofs.Overlaps.{none_found}
use Rattle.lifecycle_pass.proofs.NoFault.{stand_apart}
use Rattle.lifecycle_pass.proofs.rules.first_overlap.Goals as goal

pub returns-clause-none : goal.returns-clause-none
returns-clause-none c none = stand_apart c.args.rules.now (sym (none_found c.args.rules.now c.loop-place.place (omega arith) c.loop-place.invariant))
