use Rattle.std.proofs.Common.{subst}
use Rattle.listing_pages.specs.Unfinished.{AreStartsOf}
use Rattle.core_state.proofs.state.Core.starts.Goals as goal

pub returns-clause-listed : goal.returns-clause-listed
returns-clause-listed c = λ bucket. subst (λ M. AreStartsOf M.versions bucket c.starts.result.now) c.self.view_is (c.starts.ensures.listed bucket)
