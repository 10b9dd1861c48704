use Rattle.std.proofs.Common.{[]}
use Rattle.durable_store.proofs.copies.recorded.Goals as goal

pub returns-clause-held : goal.returns-clause-held
returns-clause-held g c = λ h is held. c.in_ok-store.ensures.held h [] is held
