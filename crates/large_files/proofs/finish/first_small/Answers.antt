use Rattle.std.proofs.Common.{sym, ◌∙◌}
use Rattle.large_files.proofs.Walks.{small_none}
use Rattle.large_files.proofs.finish.first_small.Goals as goal

pub returns : goal.returns
returns c = small_none c.args.least c.args.parts.now c.parts.at c.parts-test.false ∙ sym c.parts.invariant.same
