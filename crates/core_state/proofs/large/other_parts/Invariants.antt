use Rattle.std.proofs.Common.{◌≡◌, ◌==◌, not, filter, take}
use Rattle.core_state.proofs.large.other_parts.Given as goal

abbrev pub invariant-loop-part : goal.invariant-loop-part
invariant-loop-part l = l.others.items ≡ filter (λ q. not (q.number == l.number)) (take l.part-index l.parts)
