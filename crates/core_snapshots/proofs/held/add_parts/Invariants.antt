use Rattle.std.proofs.Common.{◌≡◌, ◌++◌, map, take}
use Rattle.core_snapshots.proofs.held.add_parts.Given as goal

abbrev pub invariant-loop-part : goal.invariant-loop-part
invariant-loop-part l = l.extents.items ≡ l.initial.extents.items ++ map (λ p. p.content) (take l.part-index l.parts)
