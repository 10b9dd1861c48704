use Rattle.call_fields.proofs.Once.{one_call}
use Rattle.call_fields.proofs.call.one_call.Goals as goal

pub returns : goal.returns
returns c = one_call
