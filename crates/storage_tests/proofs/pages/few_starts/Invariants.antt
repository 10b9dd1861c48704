use Rattle.listing_pages.specs.Unfinished.{AreStarts}
use Rattle.storage_tests.proofs.pages.few_starts.Given as goal

abbrev pub invariant-loop-name : goal.invariant-loop-name
invariant-loop-name l = AreStarts l.starts
