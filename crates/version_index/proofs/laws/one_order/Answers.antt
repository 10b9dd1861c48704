use Rattle.version_index.proofs.Members.{one_order_of}
use Rattle.version_index.proofs.laws.one_order.Goals as goal

pub returns : goal.returns
returns g c = one_order_of
