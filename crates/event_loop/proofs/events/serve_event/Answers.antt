use Rattle.std.proofs.Common.{subst, sym}
use Rattle.outside_traits.specs.declared.link.Event.{Event}
use Rattle.outside_traits.specs.Memory.{link_sent}
use Rattle.request_acts.specs.Answering.{reads}
use Rattle.event_loop.specs.Serving.{Serves}
use Rattle.event_loop.proofs.Opening.{open_served, piece_served, gone_served}
use Rattle.event_loop.proofs.events.serve_event.Goals as goal

pub returns-in_ok-on_open-in-Open-clause-served : goal.returns-in_ok-on_open-in-Open-clause-served
returns-in_ok-on_open-in-Open-clause-served g c =
    let at = g.S.Answering.at c.args.store.now in
    let R = reads g.S.Answering.call g.S.Answering.upload in
    subst (λ (e : Event). Serves R c.args.reading e at c.args.conns.now (link_sent c.args.link.now) at c.on_open.new.conns (link_sent c.on_open.new.link)) (sym c.in-Open.is)
    (open_served R c.args.reading at c.args.conns.now c.on_open.new.conns (link_sent c.args.link.now) (link_sent c.on_open.new.link) c.in-Open.c c.in_ok-on_open-in-Open.ensures.stays c.in_ok-on_open-in-Open.ensures.opened c.in_ok-on_open-in-Open.ensures.full)

pub returns-in_ok-on_piece-in-Piece-clause-served : goal.returns-in_ok-on_piece-in-Piece-clause-served
returns-in_ok-on_piece-in-Piece-clause-served g c =
    let was = g.S.Answering.at c.args.store.now in
    let now = g.S.Answering.at c.on_piece.new.store in
    let R = reads g.S.Answering.call g.S.Answering.upload in
    subst (λ (e : Event). Serves R c.args.reading e was c.args.conns.now (link_sent c.args.link.now) now c.on_piece.new.conns (link_sent c.args.link.now)) (sym c.in-Piece.is)
    (piece_served R c.args.reading was now c.args.conns.now c.on_piece.new.conns (link_sent c.args.link.now) c.in-Piece.c c.get.result.now c.in-Piece.bytes c.get.ensures c.in_ok-on_piece-in-Piece.ensures)

pub returns-in_ok-on_ready-in-Ready-clause-served : goal.returns-in_ok-on_ready-in-Ready-clause-served
returns-in_ok-on_ready-in-Ready-clause-served g c =
    let was = g.S.Answering.at c.args.store.now in
    let now = g.S.Answering.at c.on_ready.new.store in
    let R = reads g.S.Answering.call g.S.Answering.upload in
    subst (λ (e : Event). Serves R c.args.reading e was c.args.conns.now (link_sent c.args.link.now) now c.on_ready.new.conns (link_sent c.on_ready.new.link)) (sym c.in-Ready.is) c.in_ok-on_ready-in-Ready.ensures.served

pub returns-in_ok-on_gone-in-Gone-clause-served : goal.returns-in_ok-on_gone-in-Gone-clause-served
returns-in_ok-on_gone-in-Gone-clause-served g c =
    let was = g.S.Answering.at c.args.store.now in
    let now = g.S.Answering.at c.on_gone.new.store in
    let R = reads g.S.Answering.call g.S.Answering.upload in
    subst (λ (e : Event). Serves R c.args.reading e was c.args.conns.now (link_sent c.args.link.now) now c.on_gone.new.conns (link_sent c.args.link.now)) (sym c.in-Gone.is)
    (gone_served R c.args.reading was now c.args.conns.now c.on_gone.new.conns (link_sent c.args.link.now) c.in-Gone.c c.in_ok-on_gone-in-Gone.ensures)
