use Rattle.std.proofs.Common.{ℕ, List}
use Rattle.outside_traits.specs.Lists.{clock_ahead}
use Rattle.outside_traits.specs.Memory.{link_ahead, link_sent}
use Rattle.b2_model.specs.State.{State}
use Rattle.served_world.specs.World.{start}
use Rattle.request_acts.specs.Answering.{none_under_way, none_read, reads}
use Rattle.event_loop.specs.Serving.{IsWilling}
use Rattle.event_loop.proofs.Loops.{HasServed}
use Rattle.event_loop.proofs.turns.serve.Given as goal

abbrev pub invariant-turns : goal.invariant-turns
invariant-turns g l =
    IsWilling l.link
    × ((M : State (List ℕ)) (words : List ℕ) → g.S.Answering.at l.fn.store M words none_under_way none_read → HasServed (reads g.S.Answering.call g.S.Answering.upload) (start M words) (link_ahead l.fn.link) (link_ahead l.link) (clock_ahead l.fn.clock) (clock_ahead l.clock) l.counter (g.S.Answering.at l.store) l.conns (link_sent l.link))
