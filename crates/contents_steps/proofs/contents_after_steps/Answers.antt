use Rattle.contents_steps.proofs.Brought.{old_or_brought}
use Rattle.contents_steps.proofs.contents_after_steps.Goals as goal

pub returns : goal.returns
returns g c P R s x at = old_or_brought P R s x at
