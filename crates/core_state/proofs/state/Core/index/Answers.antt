use Rattle.std.proofs.Common.{subst, sym, ap}
use Rattle.index_rows.specs.OwnRows.{AreNumbered}
use Rattle.core_state.proofs.state.Core.index.Goals as goal

pub returns-clause-numbered : goal.returns-clause-numbered
returns-clause-numbered c = subst (λ M. AreNumbered M.versions) c.self.view_is c.index.ensures.numbered

pub returns-clause-listed : goal.returns-clause-listed
returns-clause-listed c = λ bucket. c.index.ensures.listed c.args.self.now bucket (sym (ap (λ M. M.versions) c.self.view_is))
