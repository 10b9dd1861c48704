use Rattle.listing_pages.proofs.Currents.{current_is}
use Rattle.listing_pages.proofs.laws.current_from_a_place.Goals as goal

pub returns : goal.returns
returns g c = current_is
