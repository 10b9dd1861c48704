use Rattle.sound_steps.proofs.Outcomes.{ask_applies, end_applies}
use Rattle.sound_steps.proofs.accepted_records_apply.Goals as goal

pub returns-clause-call : goal.returns-clause-call
returns-clause-call g c K M t words token asked sound fit none = ask_applies K M t words token asked sound fit none

pub returns-clause-end : goal.returns-clause-end
returns-clause-end g c size M t f body sound none = end_applies size M t f body sound none
