use Rattle.std.proofs.Common.{◌≡◌, Option, Some, sym, subst}
use Rattle.std.specs.Prelude.{MatchOption}
use Rattle.served_world.specs.World.{Conn, IsPiece}
use Rattle.request_acts.specs.Answering.{reads}
use Rattle.event_loop.proofs.Tables.{open_some, set_same}
use Rattle.event_loop.proofs.events.on_piece.Goals as goal

pub read_bytes-requires : goal.read_bytes-requires
read_bytes-requires g c =
    let (w, ups, outs, table) = c.requires in
    let (k, some, kept) = open_some (reads g.S.Answering.call g.S.Answering.upload) c.args.conns.now c.args.c (ups c.args.c) (outs c.args.c) (w.conns c.args.c) c.if-not-is_open.ensures (table.each c.args.c) in (kept.talk, kept.is_talk)

pub returns : goal.returns
returns g c = λ w was.
    let R = reads g.S.Answering.call g.S.Answering.upload in
    let (k, some, kept) = open_some R c.args.conns.now c.args.c (was.uploads c.args.c) (was.contents c.args.c) (w.conns c.args.c) c.if-not-is_open.ensures (was.table.each c.args.c) in
    let (v, does, at, sends) = c.in_ok-read_bytes.ensures w k (record {
      uploads = was.uploads;
      contents = was.contents;
      machine = was.machine;
      table = record { each = set_same R c.args.conns.now was.uploads was.contents w.conns c.args.c (Some k) some was.table.each; count = was.table.count };
    }) in (v, subst (λ (x : Option Conn). MatchOption x (v ≡ w) (λ j. IsPiece R c.args.reading w c.args.c j c.args.bytes.now v)) (sym some) does, at, sends)
