use Rattle.step_records.proofs.Told.{each_moment, each_fit, each_next}
use Rattle.step_records.proofs.records_tell_their_step.Goals as goal

pub returns-clause-moment : goal.returns-clause-moment
returns-clause-moment g c K P s = each_moment K P s

pub returns-clause-fit : goal.returns-clause-fit
returns-clause-fit g c K P s sound fit = each_fit K P sound s fit

pub returns-clause-next : goal.returns-clause-next
returns-clause-next g c K P s = each_next K P s
