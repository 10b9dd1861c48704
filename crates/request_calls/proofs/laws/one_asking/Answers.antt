use Rattle.request_calls.proofs.Askings.{one_asking}
use Rattle.request_calls.proofs.laws.one_asking.Goals as goal

pub returns : goal.returns
returns c = one_asking
