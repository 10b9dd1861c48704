use Rattle.std.proofs.Common.{◌≡◌, List, ◌++◌, drop}
use Rattle.b2_base.specs.declared.extent.Extent.{Extent}
use Rattle.stored_contents.specs.Held.{Holding, IsHeld}
use Rattle.stored_contents.specs.Room.{IsRoom}
use Rattle.stored_contents.proofs.contents.Contents.release.Given as goal

abbrev pub invariant-loop-extent : goal.invariant-loop-extent
invariant-loop-extent g l = record {
  room : (rest : List Extent) → IsRoom l.fn.self (l.fn.freed ++ rest) → IsRoom l.self (drop l.extent-index l.fn.freed ++ rest);
  held :
      (h : Holding) (rest : List Extent) → h.owned ≡ l.fn.freed ++ rest → IsHeld l.fn.self (g.D.Disk.state l.fn._disk) h
      → IsHeld l.self (g.D.Disk.state l.fn._disk) (record h { owned = drop l.extent-index l.fn.freed ++ rest });
}
