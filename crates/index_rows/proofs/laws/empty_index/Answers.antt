use Rattle.index_rows.proofs.Places.{empty_rows}
use Rattle.index_rows.proofs.laws.empty_index.Goals as goal

pub returns : goal.returns
returns g c = empty_rows
