use Rattle.http_edge.proofs.Once.{one_received}
use Rattle.http_edge.proofs.laws.one_received.Goals as goal

pub returns : goal.returns
returns c = one_received
