use Rattle.std.proofs.Common.{subst, sym, ap}
use Rattle.listing_pages.specs.Unfinished.{AreStarts}
use Rattle.listing_pages.proofs.Few.{starts_placed}
use Rattle.storage_tests.proofs.pages.put_start.Goals as goal

pub returns : goal.returns
returns c = subst AreStarts (sym c.in-Ok.ensures.ok) (starts_placed (c.start_place-spot.result, c.in_ok-name.name) c.args.starts.now (ap (λ s. s.name) c.start_place-spot.ensures) c.requires)
