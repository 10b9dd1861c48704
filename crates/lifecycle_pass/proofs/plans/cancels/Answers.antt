use Rattle.std.proofs.Common.{◌∙◌}
use Rattle.lifecycle_pass.proofs.Walks.{stale_numbers}
use Rattle.lifecycle_pass.proofs.plans.cancels.Goals as goal

pub returns : goal.returns
returns c versions look = c.of.ensures ∙ c.in_ok-stale.ensures ∙ stale_numbers c.args.t c.args.rule.now versions c.args.faces.now look
