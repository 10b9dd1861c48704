use Rattle.index_rows.proofs.Places.{removed}
use Rattle.index_rows.proofs.laws.removed_row.Goals as goal

pub returns : goal.returns
returns g c = removed
