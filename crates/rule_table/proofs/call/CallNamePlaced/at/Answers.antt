use Rattle.std.proofs.Common.{◌∙◌}
use Rattle.rule_table.specs.CallName.{call_order}
use Rattle.rule_table.proofs.Slots.{copied_at}
use Rattle.rule_table.proofs.call.CallNamePlaced.at.Goals as goal

pub returns : goal.returns
returns c = c.copied.ensures ∙ copied_at call_order c.args.place c.get.result c.get.ensures.lookup
