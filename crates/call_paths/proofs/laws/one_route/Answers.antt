use Rattle.call_paths.proofs.Routing.{one_route, one_fault, routed_or_not}
use Rattle.call_paths.proofs.laws.one_route.Goals as goal

pub returns-clause-call : goal.returns-clause-call
returns-clause-call c = one_route

pub returns-clause-fault : goal.returns-clause-fault
returns-clause-fault c = one_fault

pub returns-clause-either : goal.returns-clause-either
returns-clause-either c = routed_or_not
