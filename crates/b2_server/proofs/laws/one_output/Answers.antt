use Rattle.b2_server.proofs.Once.{one_request, one_shown}
use Rattle.b2_server.proofs.laws.one_output.Goals as goal

pub returns-clause-request : goal.returns-clause-request
returns-clause-request c = one_request

pub returns-clause-output : goal.returns-clause-output
returns-clause-output c = one_shown c.one_first_wrong_line.ensures.lines
