use Rattle.std.proofs.Common.{take}
use Rattle.extent_space.specs.Room.{IsRoomOf}
use Rattle.extent_space.proofs.space.Space.from_used.Given as goal

abbrev pub invariant-loop-e : goal.invariant-loop-e
invariant-loop-e l = IsRoomOf l.limit (take l.e-index l.used) l.space
