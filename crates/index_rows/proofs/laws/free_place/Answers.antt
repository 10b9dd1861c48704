use Rattle.index_rows.proofs.Places.{free}
use Rattle.index_rows.proofs.laws.free_place.Goals as goal

pub returns : goal.returns
returns g c = free
