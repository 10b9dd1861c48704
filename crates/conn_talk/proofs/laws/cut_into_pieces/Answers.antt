use Rattle.conn_talk.proofs.Cuts.{from_first, same_by_bytes}
use Rattle.conn_talk.proofs.laws.cut_into_pieces.Goals as goal

pub returns-clause-asked : goal.returns-clause-asked
returns-clause-asked c = λ before got piece pieces acts last read. (from_first before got piece pieces acts last read).0

pub returns-clause-acts : goal.returns-clause-acts
returns-clause-acts c = λ before got piece pieces acts last read. (from_first before got piece pieces acts last read).1

pub returns-clause-same : goal.returns-clause-same
returns-clause-same c = same_by_bytes
