use Rattle.listing_pages.proofs.InFolders.{same_folder_too}
use Rattle.listing_pages.proofs.laws.names_of_a_folder.Goals as goal

pub returns : goal.returns
returns c prefix delimiter a b folder some = same_folder_too prefix delimiter some a b folder
