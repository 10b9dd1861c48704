use Rattle.flight_laws.proofs.Laws.{begin_sets, begin_refuses, begin_keeps}
use Rattle.flight_laws.proofs.begins_are_under_way.Goals as goal

pub returns-clause-begins : goal.returns-clause-begins
returns-clause-begins g c = begin_sets

pub returns-clause-refused : goal.returns-clause-refused
returns-clause-refused g c = begin_refuses

pub returns-clause-others : goal.returns-clause-others
returns-clause-others g c = begin_keeps
