use Rattle.http_edge.proofs.Fronts.{longer_front, shorter_front, front_not_yet, one_cut}
use Rattle.http_edge.proofs.cut.cut_as_it_comes.Goals as goal

pub returns-clause-longer : goal.returns-clause-longer
returns-clause-longer c = longer_front

pub returns-clause-shorter : goal.returns-clause-shorter
returns-clause-shorter c = shorter_front

pub returns-clause-none : goal.returns-clause-none
returns-clause-none c = front_not_yet

pub returns-clause-one : goal.returns-clause-one
returns-clause-one c = one_cut
