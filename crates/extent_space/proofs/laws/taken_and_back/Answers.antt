use Rattle.extent_space.proofs.Runs.{taken_and_back as by_bytes}
use Rattle.extent_space.proofs.laws.taken_and_back.Goals as goal

pub returns : goal.returns
returns c = by_bytes
