use Rattle.extent_space.proofs.Runs.{one_room as by_bytes}
use Rattle.extent_space.proofs.laws.one_room.Goals as goal

pub returns : goal.returns
returns c = by_bytes
