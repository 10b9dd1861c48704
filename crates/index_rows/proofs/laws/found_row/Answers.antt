use Rattle.index_rows.proofs.Places.{found}
use Rattle.index_rows.proofs.laws.found_row.Goals as goal

pub returns : goal.returns
returns g c = found
