use Rattle.index_rows.proofs.Places.{made, numbered}
use Rattle.index_rows.proofs.laws.made_index.Goals as goal

pub returns-clause-rows : goal.returns-clause-rows
returns-clause-rows g c = made

pub returns-clause-numbered : goal.returns-clause-numbered
returns-clause-numbered g c = numbered
