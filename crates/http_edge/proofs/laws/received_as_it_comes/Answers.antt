use Rattle.http_edge.proofs.Receiving.{head_stays, whole_stays, malformed_stays, announced_has, whole_has, came}
use Rattle.http_edge.proofs.laws.received_as_it_comes.Goals as goal

pub returns-clause-head : goal.returns-clause-head
returns-clause-head c = head_stays

pub returns-clause-whole : goal.returns-clause-whole
returns-clause-whole c = whole_stays

pub returns-clause-malformed : goal.returns-clause-malformed
returns-clause-malformed c = malformed_stays

pub returns-clause-announced : goal.returns-clause-announced
returns-clause-announced c = announced_has

pub returns-clause-of_whole : goal.returns-clause-of_whole
returns-clause-of_whole c = whole_has

pub returns-clause-after : goal.returns-clause-after
returns-clause-after c = came
