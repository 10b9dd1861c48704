use Rattle.std.proofs.Common.{◌++◌, [], ap, Some, ◌&&◌}
use Rattle.std.proofs.lemmas.Result.{IfOk-weaker}
use Rattle.conn_table.specs.declared.conn.Conn.{Conn}
use Rattle.conn_table.specs.Incoming.{Gives}
use Rattle.conn_table.proofs.Talks.{piece_read, piece_held, piece_by, unanswered}
use Rattle.conn_table.proofs.conn.Conn.piece.Goals as goal

pub returns-in-None : goal.returns-in-None
returns-in-None g c = λ a is.
    let k = c.args.self.now in
    let reading = (unanswered a k is c.in-None.is).1.incoming in
    IfOk-weaker c.piece.result (λ acts. Gives a.before (a.got ++ c.args.bytes.now) a.told [] acts.items c.piece.new.self) _ (λ acts gives. piece_read a k (record { incoming = c.piece.new.self; reply = k.reply }) c.args.bytes.now acts.items is c.in-None.is c.in-None.is gives)
    (c.piece.ensures a.before a.got a.told reading)

pub returns-in_ok-hold-in-Some : goal.returns-in_ok-hold-in-Some
returns-in_ok-hold-in-Some g c = λ a is.
    let q = c.in-Some.reply in
    let j : Conn g.row.B.Denot = record { incoming = c.hold.new.self; reply = Some (record q { stay = q.stay && c.goes_on.result }) } in
    piece_by a j c.args.bytes.now c.new.result.items c.new.ensures.items
    (piece_held a c.args.self.now j c.args.bytes.now q is c.in-Some.is c.hold.ensures.flags c.in_ok-hold-in-Some.ensures.held (ap (λ t. Some (record q { stay = q.stay && t })) c.goes_on.ensures))
