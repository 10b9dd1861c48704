use Rattle.conn_talk.proofs.Turns.{one_turn}
use Rattle.conn_talk.proofs.laws.one_turn.Goals as goal

pub returns : goal.returns
returns g c = one_turn
