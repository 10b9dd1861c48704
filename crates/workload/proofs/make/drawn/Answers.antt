use Rattle.std.proofs.Common.{refl}
use Rattle.workload.specs.Sequence.{drawn}
use Rattle.workload.proofs.make.drawn.Goals as goal

pub returns : goal.returns
unfolding drawn
returns c = refl
