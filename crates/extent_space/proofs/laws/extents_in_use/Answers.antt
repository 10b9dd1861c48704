use Rattle.extent_space.proofs.Runs.{one_less, one_more}
use Rattle.extent_space.proofs.laws.extents_in_use.Goals as goal

pub returns-clause-take : goal.returns-clause-take
returns-clause-take c = one_more

pub returns-clause-back : goal.returns-clause-back
returns-clause-back c = one_less
