use Rattle.std.proofs.Common.{◌∙◌}
use Rattle.rule_table.specs.FileKind.{kind_order}
use Rattle.rule_table.proofs.Slots.{copied_at}
use Rattle.rule_table.proofs.file_kind.FileKindPlaced.at.Goals as goal

pub returns : goal.returns
returns c = c.copied.ensures ∙ copied_at kind_order c.args.place c.get.result c.get.ensures.lookup
