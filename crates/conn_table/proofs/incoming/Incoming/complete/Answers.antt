use Rattle.std.proofs.Common.{[]}
use Rattle.conn_talk.specs.Asked.{complete}
use Rattle.conn_table.proofs.Held.{held_first}
use Rattle.conn_table.proofs.incoming.Incoming.complete.Goals as goal

pub returns-clause-held : goal.returns-clause-held
returns-clause-held c = λ head body none stay. c.hold.ensures.held (complete head body []) (held_first head body c.args.self.now.stay c.args.self.now.bytes.items stay none)
