use Rattle.std.proofs.Common.{◌≡◌, ◌≤◌, ◌+◌, ◌++◌, length, map}
use Rattle.std.specs.Prelude.{unwrap_or}
use Rattle.b2_base.specs.declared.numbers.TheConstants.{LAST_VERSION}
use Rattle.listing_pages.specs.Unfinished.{asked_starts, start_row, starts_in}
use Rattle.listing_pages.proofs.Looked.{Looks}
use Rattle.listing_pages.proofs.Numbered.{starts_left}
use Rattle.listing_pages.proofs.unfinished.starts_from.Given as goal

abbrev pub invariant-rows : goal.invariant-rows
invariant-rows g l =
    let N = starts_in l.ask.bucket l.starts in
    record {
      rows : l.walk ≡ l.starts;
      bound : l.below ≤ LAST_VERSION + 1;
      split : l.rows.items ++ starts_left l.ask.prefix l.below N ≡ map start_row (asked_starts l.ask.prefix (unwrap_or l.ask.start_num 0) N);
      looks : Looks N (unwrap_or l.ask.start_num 0) l.size l.fn.steps l.steps l.below l.rows.items;
      few : length l.rows.items ≤ l.size + 1;
    }

abbrev pub decreases-rows : goal.decreases-rows
decreases-rows g l = l.below
