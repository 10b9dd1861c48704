use Rattle.name_rules.proofs.Folders.{ends_there, ends_nowhere}
use Rattle.name_rules.proofs.folder.folder_ends.Goals as goal

pub returns-clause-end : goal.returns-clause-end
returns-clause-end c = ends_there

pub returns-clause-none : goal.returns-clause-none
returns-clause-none c = ends_nowhere
