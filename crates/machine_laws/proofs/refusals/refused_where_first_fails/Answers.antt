use Rattle.machine_laws.proofs.Refused.{call_refused, begin_refused, end_refused}
use Rattle.machine_laws.proofs.refusals.refused_where_first_fails.Goals as goal

pub returns-clause-call : goal.returns-clause-call
returns-clause-call g c P M t words token asked fault = call_refused P M t words token asked fault

pub returns-clause-begin : goal.returns-clause-begin
returns-clause-begin g c M t conn token u fault = begin_refused M t conn token u fault

pub returns-clause-end : goal.returns-clause-end
returns-clause-end g c size M t f body words fault = end_refused size M t f body words fault
