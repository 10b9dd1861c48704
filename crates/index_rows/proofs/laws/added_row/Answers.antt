use Rattle.index_rows.proofs.Places.{added}
use Rattle.index_rows.proofs.laws.added_row.Goals as goal

pub returns : goal.returns
returns g c = added
