use Rattle.version_index.proofs.Members.{placed_members, placed_order}
use Rattle.version_index.proofs.laws.placed_among.Goals as goal

pub returns-clause-members : goal.returns-clause-members
returns-clause-members g c = placed_members

pub returns-clause-order : goal.returns-clause-order
returns-clause-order g c = placed_order
