use Rattle.machine_laws.proofs.Days.{begin_stored, loss_stored}
use Rattle.machine_laws.proofs.steps.uploads_under_way_are_not_stored.Goals as goal

pub returns-clause-begin : goal.returns-clause-begin
returns-clause-begin g c K P reading conn token u not_yet = begin_stored K P reading conn token u not_yet

pub returns-clause-loss : goal.returns-clause-loss
returns-clause-loss g c K P reading conn not_yet = loss_stored K P reading conn not_yet
