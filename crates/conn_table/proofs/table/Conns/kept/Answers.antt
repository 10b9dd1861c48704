use Rattle.conn_table.specs.Table.{conn_at}
use Rattle.conn_table.proofs.Bounds.{kept_few}
use Rattle.conn_table.proofs.table.Conns.kept.Goals as goal

pub returns-in-Some-clause-request : goal.returns-in-Some-clause-request
returns-in-Some-clause-request g c = λ a is. kept_few a (conn_at c.args.self.now c.args.c) is
