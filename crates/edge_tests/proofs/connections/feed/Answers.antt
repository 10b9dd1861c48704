use Rattle.std.proofs.Common.{rules, ◌≡◌, true, Some}
use Rattle.std.specs.Option.{is_some}
use Rattle.conn_table.specs.Table.{conn_at}
use Rattle.edge_tests.proofs.Kept.{kept, has_talk}
use Rattle.edge_tests.proofs.connections.feed.Goals as goal

pub piece-requires : goal.piece-requires
piece-requires c =
    let there : is_some (conn_at c.args.conns.now c.args.c) ≡ true = search (rules, c.is_open.ensures, c.if-not-is_open.false) in
    has_talk c.args.c c.args.conns.now c.requires there

pub returns : goal.returns
returns c =
    let there : is_some (conn_at c.args.conns.now c.args.c) ≡ true = search (rules, c.is_open.ensures, c.if-not-is_open.false) in
    let talk = has_talk c.args.c c.args.conns.now c.requires there in
    let after = c.in-Ok.ensures.acts talk.0 talk.1 in
    kept c.args.c c.args.conns.now c.piece.new.self (Some after.0) c.requires c.in-Ok.ensures.others after.2
