use Rattle.event_script.proofs.Lines.{one_said}
use Rattle.event_script.proofs.laws.one_reading.Goals as goal

pub returns : goal.returns
returns c = one_said
