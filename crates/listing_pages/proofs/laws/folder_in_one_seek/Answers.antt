use Rattle.listing_pages.proofs.Names.{at_folder, at_version}
use Rattle.listing_pages.proofs.laws.folder_in_one_seek.Goals as goal

pub returns-clause-folder : goal.returns-clause-folder
returns-clause-folder g c = at_folder

pub returns-clause-version : goal.returns-clause-version
returns-clause-version g c = at_version
