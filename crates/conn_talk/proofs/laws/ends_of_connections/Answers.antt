use Rattle.conn_talk.proofs.Stays.{last_leaves, still_goes}
use Rattle.conn_talk.proofs.laws.ends_of_connections.Goals as goal

pub returns-clause-last : goal.returns-clause-last
returns-clause-last c = last_leaves

pub returns-clause-held : goal.returns-clause-held
returns-clause-held c = still_goes
