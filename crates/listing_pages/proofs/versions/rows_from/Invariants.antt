use Rattle.std.proofs.Common.{◌≡◌, ◌≤◌, ◌+◌, length, map, ◌-◌, true}
use Rattle.index_rows.specs.OwnRows.{of_bucket}
use Rattle.listing_pages.specs.PageOf.{asked_rows, listing_of, page_row}
use Rattle.listing_pages.proofs.Gather.{Stands}
use Rattle.listing_pages.proofs.versions.rows_from.Given as goal

abbrev pub invariant-rows : goal.invariant-rows
invariant-rows g l =
    let R = of_bucket l.ask.bucket l.index in
    record {
      rows : l.walk ≡ l.index;
      stands : Stands (λ v. true) R l.ask (map page_row (asked_rows (listing_of l.ask) R)) l.rows.items l.place;
      steps : l.steps ≡ l.fn.steps + length l.rows.items;
      few : length l.rows.items ≤ l.size + 1;
    }

abbrev pub decreases-rows : goal.decreases-rows
decreases-rows g l = (l.size + 1) - length l.rows.items
