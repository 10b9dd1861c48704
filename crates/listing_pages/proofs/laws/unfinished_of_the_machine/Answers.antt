use Rattle.listing_pages.proofs.Machine.{machine_starts}
use Rattle.listing_pages.proofs.laws.unfinished_of_the_machine.Goals as goal

pub returns : goal.returns
returns g c = machine_starts
