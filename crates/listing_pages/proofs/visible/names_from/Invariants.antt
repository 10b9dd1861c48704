use Rattle.std.proofs.Common.{◌≡◌, ◌≤◌, ◌+◌, length, map}
use Rattle.b2_model.specs.Pages.{visible_versions}
use Rattle.index_rows.specs.OwnRows.{of_bucket}
use Rattle.listing_pages.specs.PageOf.{asked_rows, listing_of, page_row}
use Rattle.listing_pages.proofs.NameTurns.{StandsFor, turns_at}
use Rattle.listing_pages.proofs.Passed.{CountsTo}
use Rattle.listing_pages.proofs.visible.names_from.Given as goal

abbrev pub invariant-rows : goal.invariant-rows
invariant-rows g l =
    let R = of_bucket l.ask.bucket l.index in
    record {
      rows : l.walk ≡ l.index;
      stands : StandsFor R l.ask (map page_row (asked_rows (listing_of l.ask) (visible_versions R))) l.rows.items l.place;
      counts : CountsTo R l.ask l.size l.fn.steps l.steps l.rows.items l.place;
      few : length l.rows.items ≤ l.size + 1;
    }

abbrev pub decreases-rows : goal.decreases-rows
decreases-rows g l = turns_at (of_bucket l.ask.bucket l.index) l.ask l.place
