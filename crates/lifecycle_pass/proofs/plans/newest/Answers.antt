use Rattle.std.proofs.Common.{arith, ◌+◌}
use Rattle.lifecycle_pass.proofs.Walks.{newest_here, no_file_past, none_newest, slice_rest}
use Rattle.lifecycle_pass.proofs.plans.newest.Goals as goal

pub returns-then-not-is_start : goal.returns-then-not-is_start
returns-then-not-is_start c = newest_here c.args.faces.now c.loop-place.place c.index-faces-place.result (omega arith) c.index-faces-place.is c.if-not-is_start.ensures c.loop-place.invariant _ (slice_rest c.args.faces.now (c.loop-place.place + 1))

pub loop-place-preserved : goal.loop-place-preserved
loop-place-preserved c = no_file_past c.args.faces.now c.loop-place.place c.index-faces-place.result (omega arith) c.index-faces-place.is c.if-not-is_start.ensures c.loop-place.invariant

pub returns : goal.returns
returns c = none_newest c.args.faces.now c.loop-place.place (omega arith) c.loop-place.invariant
