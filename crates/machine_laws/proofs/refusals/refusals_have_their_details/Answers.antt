use Rattle.machine_laws.proofs.Details.{refused_call_tells, refused_begin_tells, refused_end_tells}
use Rattle.machine_laws.proofs.refusals.refusals_have_their_details.Goals as goal

pub returns-clause-call : goal.returns-clause-call
returns-clause-call g c P M t words token asked fault brings told = refused_call_tells P M t words token asked fault brings told

pub returns-clause-begin : goal.returns-clause-begin
returns-clause-begin g c M t conn token u fault brings told = refused_begin_tells M t conn token u fault brings told

pub returns-clause-end : goal.returns-clause-end
returns-clause-end g c size M t f body words fault brings told = refused_end_tells size M t f body words fault brings told
