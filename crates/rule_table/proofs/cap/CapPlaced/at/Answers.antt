use Rattle.std.proofs.Common.{◌∙◌, subst, List, slice_get, ◌≡◌}
use Rattle.rule_table.specs.declared.cap.Cap.{Cap}
use Rattle.rule_table.proofs.Slots.{copied_at}
use Rattle.rule_table.proofs.cap.CapPlaced.at.Goals as goal

pub returns : goal.returns
returns c = subst (λ (order : List Cap). c.copied.result ≡ slice_get order c.args.place) c.every_cap.ensures (c.copied.ensures ∙ copied_at c.every_cap.result c.args.place c.get.result c.get.ensures.lookup)
