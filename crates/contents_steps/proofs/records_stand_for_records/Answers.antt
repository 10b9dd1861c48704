use Rattle.contents_steps.proofs.Records.{applies-by, record-by}
use Rattle.contents_steps.proofs.records_stand_for_records.Goals as goal

pub returns-clause-applies : goal.returns-clause-applies
returns-clause-applies g c f h M ch = applies-by f h M ch

pub returns-clause-record : goal.returns-clause-record
returns-clause-record g c f h M r agree = record-by f h M r agree
