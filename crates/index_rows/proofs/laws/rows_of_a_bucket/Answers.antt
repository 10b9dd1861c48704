use Rattle.index_rows.proofs.Listed.{listed}
use Rattle.index_rows.proofs.laws.rows_of_a_bucket.Goals as goal

pub returns : goal.returns
returns g c = listed
