use Rattle.listing_pages.proofs.Starts.{start_above, start_inside}
use Rattle.listing_pages.proofs.laws.starts_and_folders.Goals as goal

pub returns-clause-inside : goal.returns-clause-inside
returns-clause-inside g c = start_inside g.row.C.Denot

pub returns-clause-above : goal.returns-clause-above
returns-clause-above g c = start_above g.row.C.Denot
