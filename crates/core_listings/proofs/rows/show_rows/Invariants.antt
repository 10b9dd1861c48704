use Rattle.std.proofs.Common.{◌≡◌, Some, map, take}
use Rattle.std.specs.Option.{option_copied}
use Rattle.core_listings.specs.Rows.{shown_at}
use Rattle.core_listings.proofs.rows.show_rows.Given as goal

abbrev pub invariant-rows : goal.invariant-rows
invariant-rows l = map (shown_at l.core (option_copied l.key) l.bucket) (take l.row-index l.rows) ≡ map Some l.shown.items
