use Rattle.flight_laws.proofs.Laws.{without_here, without_keeps, end_here, end_keeps, end_step_here, end_step_keeps, ended_here, ended_keeps, lost_here, lost_keeps}
use Rattle.flight_laws.proofs.ends_are_over.Goals as goal

pub returns-clause-without : goal.returns-clause-without
returns-clause-without g c M t conn = (without_here M t conn, without_keeps M t conn)

pub returns-clause-end : goal.returns-clause-end
returns-clause-end g c size M t conn f body words same = (end_here size M t conn f body words same, end_keeps size M t conn f body words same)

pub returns-clause-end_on_day : goal.returns-clause-end_on_day
returns-clause-end_on_day g c K P reading conn f body same = (end_step_here K P reading conn f body same, end_step_keeps K P reading conn f body same)

pub returns-clause-end_step : goal.returns-clause-end_step
returns-clause-end_step g c K P reading conn body = (ended_here K P reading conn body, ended_keeps K P reading conn body)

pub returns-clause-loss_step : goal.returns-clause-loss_step
returns-clause-loss_step g c K P reading conn = (lost_here K P reading conn, lost_keeps K P reading conn)
