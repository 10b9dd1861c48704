use Rattle.std.proofs.Common.{subst}
use Rattle.extent_space.specs.Room.{IsTidy}
use Rattle.extent_space.proofs.Views.{tidy_by_map}
use Rattle.extent_space.proofs.space.Space.end.Goals as goal

pub returns-clause-tidy : goal.returns-clause-tidy
returns-clause-tidy c = subst IsTidy c.self.view_is (tidy_by_map c.self.inside.holes c.self.invariant.0 c.self.inside.end c.self.inside.limit c.self.invariant.1)
