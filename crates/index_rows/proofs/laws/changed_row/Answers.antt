use Rattle.index_rows.proofs.Places.{changed_rows}
use Rattle.index_rows.proofs.laws.changed_row.Goals as goal

pub returns : goal.returns
returns g c = changed_rows
