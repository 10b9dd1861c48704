use Rattle.version_index.proofs.Members.{itself, one_spot}
use Rattle.version_index.proofs.laws.same_spot.Goals as goal

pub returns : goal.returns
returns c s t = (one_spot s t, itself s t)
