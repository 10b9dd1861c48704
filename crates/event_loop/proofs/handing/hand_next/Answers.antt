use Rattle.std.proofs.Common.{◌≤◌, ◌+◌, ℕ, sym, subst}
use Rattle.conn_talk.specs.Talk.{size_of}
use Rattle.event_loop.proofs.Fronts.{part_within}
use Rattle.event_loop.proofs.handing.hand_next.Goals as goal

pub hand_over-requires-clause-within : goal.hand_over-requires-clause-within
hand_over-requires-clause-within g c = part_within c.args.pending.now c.handed.result.now c.requires.bounds c.handed.ensures

pub returns-then-pending-eq0-clause-within : goal.returns-then-pending-eq0-clause-within
returns-then-pending-eq0-clause-within g c =
    subst (λ (n : ℕ). c.args.pending.now.sent + n ≤ size_of c.args.pending.now) (sym c.in_ok-n.ensures.count) (part_within c.args.pending.now c.handed.result.now c.requires.bounds c.handed.ensures)
