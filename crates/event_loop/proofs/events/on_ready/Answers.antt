use Rattle.std.proofs.Common.{◌≤◌, ◌+◌, ℕ, List, Option, sym, subst}
use Rattle.std.specs.Prelude.{MatchOption}
use Rattle.conn_talk.specs.declared.pending.Pending.{Pending}
use Rattle.conn_talk.specs.Talk.{size_of}
use Rattle.request_acts.specs.Answering.{reads}
use Rattle.event_loop.proofs.Tables.{has_pending}
use Rattle.event_loop.proofs.Ready.{bounds, ready_served}
use Rattle.event_loop.proofs.events.on_ready.Goals as goal

pub hand_next-requires-clause-bounds : goal.hand_next-requires-clause-bounds
hand_next-requires-clause-bounds g c =
    let (w, ups, outs, table) = c.requires.world in bounds (reads g.S.Answering.call g.S.Answering.upload) ups outs c.args.conns.now w c.args.c c.in-Some.pending.now table (sym c.in-Some.ensures.pending)

pub after_send-requires-clause-talk : goal.after_send-requires-clause-talk
after_send-requires-clause-talk g c =
    let (w, ups, outs, table) = c.requires.world in
    let h = has_pending (reads g.S.Answering.call g.S.Answering.upload) ups outs c.args.conns.now w c.args.c c.in-Some.pending.now table.each (sym c.in-Some.ensures.pending) in (h.replying.talk, h.p, h.replying.is_talk, h.replying.reply)

pub after_send-requires-clause-within : goal.after_send-requires-clause-within
after_send-requires-clause-within g c = subst (λ (x : Option (Pending (List ℕ))). MatchOption x ⊥ (λ p. p.sent + c.in_ok-n.n ≤ size_of p)) c.in-Some.ensures.pending c.in_ok-n.ensures.within

pub returns-clause-served : goal.returns-clause-served
returns-clause-served g c =
    ready_served (reads g.S.Answering.call g.S.Answering.upload) c.args.reading (g.S.Answering.at c.args.store.now) (g.S.Answering.at c.hand_next.new.store) (g.S.Answering.at c.after_send.new.store) c.args.conns.now c.after_send.new.conns _ _ c.args.c c.in-Some.pending.now c.in_ok-n.n
    (sym c.in-Some.ensures.pending) c.in_ok-n.ensures.handed c.in_ok-after_send.ensures
