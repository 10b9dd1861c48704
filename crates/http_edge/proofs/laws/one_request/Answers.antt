use Rattle.http_edge.proofs.Once.{one_request, one_head_fault, request_or_fault}
use Rattle.http_edge.proofs.laws.one_request.Goals as goal

pub returns-clause-request : goal.returns-clause-request
returns-clause-request c = one_request

pub returns-clause-fault : goal.returns-clause-fault
returns-clause-fault c = one_head_fault

pub returns-clause-either : goal.returns-clause-either
returns-clause-either c = request_or_fault
