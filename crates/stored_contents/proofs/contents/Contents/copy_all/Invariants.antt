use Rattle.std.proofs.Common.{◌≡◌, ◌≤◌, ◌-◌, nat_eq, List, [], Some, length, take}
use Rattle.std.specs.Map.{update}
use Rattle.b2_base.specs.declared.extent.Extent.{Extent}
use Rattle.stored_contents.specs.Held.{Holding, IsHeld, Spares}
use Rattle.stored_contents.specs.Room.{IsRoom}
use Rattle.stored_contents.proofs.contents.Contents.copy_all.Given as goal

abbrev pub invariant-loop-left : goal.invariant-loop-left
invariant-loop-left g l = record {
  within : l.left ≤ l.fn.len;
  room : (owned : List Extent) → IsRoom l.fn.self owned → IsRoom l.self owned;
  later : g.D.Disk.faults l.fn.disk ≤ g.D.Disk.faults l.disk;
  spares : (owned : List Extent) → IsRoom l.fn.self owned → Spares owned (g.D.Disk.state l.fn.disk) (g.D.Disk.state l.disk);
  held :
      (h : Holding) → IsHeld l.fn.self (g.D.Disk.state l.fn.disk) h → length (h.read l.fn.c) ≡ l.fn.len
      → h.came l.fn.c ≡ Some (record { len = l.fn.len; bytes = [] })
      → IsHeld l.self (g.D.Disk.state l.disk) (record h { came = update nat_eq h.came l.fn.c (Some (record { len = l.fn.len; bytes = take (l.fn.len - l.left) (h.read l.fn.c) })) });
}

abbrev pub decreases-loop-left : goal.decreases-loop-left
decreases-loop-left g l = l.left
