use Rattle.request_laws.proofs.Calls.{call_fits, call_in_order}
use Rattle.request_laws.proofs.calls_are_fit.Goals as goal

pub returns-clause-fit : goal.returns-clause-fit
returns-clause-fit c = call_fits

pub returns-clause-order : goal.returns-clause-order
returns-clause-order c = call_in_order
