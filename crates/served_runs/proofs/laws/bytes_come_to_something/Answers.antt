use Rattle.served_runs.proofs.Come.{is_received, is_asked}
use Rattle.served_runs.proofs.laws.bytes_come_to_something.Goals as goal

pub returns-clause-received : goal.returns-clause-received
returns-clause-received c = is_received

pub returns-clause-asked : goal.returns-clause-asked
returns-clause-asked c = is_asked
