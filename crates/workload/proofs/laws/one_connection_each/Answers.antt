use Rattle.workload.proofs.Turns.{opens_all}
use Rattle.workload.proofs.laws.one_connection_each.Goals as goal

pub returns : goal.returns
returns c = opens_all
