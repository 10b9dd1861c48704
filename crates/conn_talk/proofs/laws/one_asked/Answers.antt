use Rattle.conn_talk.proofs.Once.{one_asked}
use Rattle.conn_talk.proofs.laws.one_asked.Goals as goal

pub returns : goal.returns
returns c = one_asked
