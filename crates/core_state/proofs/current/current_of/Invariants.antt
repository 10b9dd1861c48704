use Rattle.std.proofs.Common.{◌≡◌}
use Rattle.index_rows.specs.OwnRows.{of_bucket}
use Rattle.listing_pages.specs.NameRows.{StartsBefore}
use Rattle.core_state.proofs.current.current_of.Given as goal

abbrev pub invariant-starts : goal.invariant-starts
invariant-starts g l = record {
  bucket : l.place.bucket ≡ l.fn.bucket;
  name : l.place.name ≡ l.fn.name;
  starts : StartsBefore l.place (of_bucket l.fn.bucket l.index);
}

abbrev pub decreases-starts : goal.decreases-starts
decreases-starts g l = l.place.num
