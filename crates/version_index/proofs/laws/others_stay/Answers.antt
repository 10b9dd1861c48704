use Rattle.version_index.proofs.Members.{without_members, without_order}
use Rattle.version_index.proofs.laws.others_stay.Goals as goal

pub returns-clause-members : goal.returns-clause-members
returns-clause-members g c = without_members

pub returns-clause-order : goal.returns-clause-order
returns-clause-order g c = without_order
