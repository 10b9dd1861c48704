use Rattle.index_rows.proofs.Places.{one_index_of}
use Rattle.index_rows.proofs.laws.one_index.Goals as goal

pub returns : goal.returns
returns g c = one_index_of
