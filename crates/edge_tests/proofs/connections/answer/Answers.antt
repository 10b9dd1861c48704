use Rattle.std.proofs.Common.{rules, ◌≡◌, true, Some, None}
use Rattle.std.specs.Option.{is_some}
use Rattle.conn_talk.specs.declared.pending.Pending.{Pending}
use Rattle.conn_table.specs.Table.{conn_at}
use Rattle.edge_tests.proofs.Kept.{kept, has_talk}
use Rattle.edge_tests.proofs.connections.answer.Goals as goal

pub returns : goal.returns
returns c =
    let there : is_some (conn_at c.args.conns.now c.args.c) ≡ true = search (rules, c.is_open.ensures, c.if-not-is_open.false) in
    let talk = has_talk c.args.c c.args.conns.now c.requires there in
    let reply : Pending (Unit {0}) = record { text = c.in-Ok.text; body = None; len = 0; sent = 0; stay = true } in
    kept c.args.c c.args.conns.now c.answer.new.self (Some (record talk.0 { reply = Some reply })) c.requires c.answer.ensures.others (c.answer.ensures.talk talk.0 talk.1)
