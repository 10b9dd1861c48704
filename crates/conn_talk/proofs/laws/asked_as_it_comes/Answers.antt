use Rattle.conn_talk.proofs.Came.{complete_more, refused_more}
use Rattle.conn_talk.proofs.laws.asked_as_it_comes.Goals as goal

pub returns-clause-complete : goal.returns-clause-complete
returns-clause-complete c = complete_more

pub returns-clause-refused : goal.returns-clause-refused
returns-clause-refused c = refused_more
