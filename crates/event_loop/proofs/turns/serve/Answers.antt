use Rattle.std.proofs.Common.{Vec, Global, ℕ, ap, ◌∙◌, arith}
use Rattle.outside_traits.specs.Lists.{clock_ahead, clock_last}
use Rattle.outside_traits.specs.Memory.{link_ahead, link_sent}
use Rattle.served_world.specs.World.{start}
use Rattle.request_acts.specs.Answering.{reads}
use Rattle.event_loop.proofs.Loops.{served_none, served_more, all_served, same_sent}
use Rattle.event_loop.proofs.turns.serve.Goals as goal

pub turns-init : goal.turns-init
turns-init g c = (
  c.requires.willing,
  λ M words at. served_none (reads g.S.Answering.call g.S.Answering.upload) M words (link_ahead c.args.link.now) (clock_ahead c.args.clock.now) (g.S.Answering.at c.args.store.now) c.new-conns.result (link_sent c.args.link.now) at c.new-conns.ensures.closed c.new-conns.ensures.count c.requires.unsent,
)

pub serve_event-requires-clause-world : goal.serve_event-requires-clause-world
serve_event-requires-clause-world g c =
    let (M, words, at) = c.requires.somewhere in
    let h = c.turns.invariant.1 M words at in (h.world, h.at.uploads, h.at.contents, h.at.table)

pub serve_event-requires-clause-willing : goal.serve_event-requires-clause-willing
serve_event-requires-clause-willing g c = record { fails = ap (λ (v : Vec ℕ Global). v.items) c.in-Ok.ensures.same ∙ c.turns.invariant.0.fails; gone = c.in-Ok.ensures.gone ∙ c.turns.invariant.0.gone }

pub turns-preserved : goal.turns-preserved
turns-preserved g c = (
  c.in_ok-serve_event.ensures.willing,
  λ M words at.
      let some = c.turns-test.true in
      let events = c.requires.events in
      let readings = c.requires.readings in
      served_more (reads g.S.Answering.call g.S.Answering.upload) (start M words) (link_ahead c.args.link.now) (link_ahead c.turns.link) (link_ahead c.serve_event.new.link) (clock_ahead c.args.clock.now) (clock_ahead c.turns.clock) (clock_ahead c.now-reading.new.self)
      c.turns.counter (clock_last c.turns.clock) c.now-reading.result c.in-Ok.event (g.S.Answering.at c.turns.store) (g.S.Answering.at c.serve_event.new.store) c.turns.conns c.serve_event.new.conns (link_sent c.next.new.self) (link_sent c.serve_event.new.link)
      (omega (arith, some, events)) (omega (arith, some, readings)) c.in-Ok.ensures.event.0 (c.in_ok-serve_event.ensures.ahead ∙ c.in-Ok.ensures.event.1) c.now-reading.ensures.0 c.now-reading.ensures.1 c.in_ok-serve_event.ensures.served
      (same_sent (c.turns.invariant.1 M words at) c.in-Ok.ensures.sent),
)

pub returns : goal.returns
returns g c = λ M words at.
    let all = c.turns-test.false in
    let end = c.turns.auto.counter-end in
    let events = c.requires.events in
    let readings = c.requires.readings in
    all_served (reads g.S.Answering.call g.S.Answering.upload) (start M words) (link_ahead c.args.link.now) (link_ahead c.turns.link) (clock_ahead c.args.clock.now) (clock_ahead c.turns.clock) c.turns.counter (g.S.Answering.at c.turns.store) c.turns.conns (link_sent c.turns.link)
    (omega (arith, all, end, events)) (omega (arith, all, end, readings)) (c.turns.invariant.1 M words at)
