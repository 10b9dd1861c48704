use Rattle.event_script.proofs.Fronts.{script_has_no_wrong_line, one_wrong_line, one_list}
use Rattle.event_script.proofs.laws.one_first_wrong_line.Goals as goal

pub returns-clause-none : goal.returns-clause-none
returns-clause-none c = script_has_no_wrong_line

pub returns-clause-first : goal.returns-clause-first
returns-clause-first c = one_wrong_line

pub returns-clause-lines : goal.returns-clause-lines
returns-clause-lines c = one_list
