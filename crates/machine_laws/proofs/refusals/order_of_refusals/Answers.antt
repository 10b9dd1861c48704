use Rattle.machine_laws.proofs.Existence.{exists_kinds}
use Rattle.machine_laws.proofs.refusals.order_of_refusals.Goals as goal

pub returns-clause-existence : goal.returns-clause-existence
returns-clause-existence g c P M t words key asked judged = exists_kinds P M t words key asked judged
