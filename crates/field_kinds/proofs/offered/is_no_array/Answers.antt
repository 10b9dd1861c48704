use Rattle.std.proofs.Common.{sym, ◌∙◌}
use Rattle.field_kinds.proofs.NoItems.{no_items_left}
use Rattle.field_kinds.proofs.offered.is_no_array.Goals as goal

pub returns : goal.returns
returns c = c.is_empty.ensures ∙ sym (no_items_left c.args.items.now)
