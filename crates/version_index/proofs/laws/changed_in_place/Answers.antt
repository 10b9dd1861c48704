use Rattle.version_index.proofs.Members.{changed}
use Rattle.version_index.proofs.laws.changed_in_place.Goals as goal

pub returns : goal.returns
returns g c = changed
