use Rattle.flight_laws.proofs.Laws.{asked_keeps, day_keeps, asks_keep, passes_keep}
use Rattle.flight_laws.proofs.calls_leave_uploads.Goals as goal

pub returns-clause-call : goal.returns-clause-call
returns-clause-call g c = asked_keeps

pub returns-clause-pass : goal.returns-clause-pass
returns-clause-pass g c = day_keeps

pub returns-clause-call_step : goal.returns-clause-call_step
returns-clause-call_step g c = asks_keep

pub returns-clause-pass_step : goal.returns-clause-pass_step
returns-clause-pass_step g c = passes_keep
