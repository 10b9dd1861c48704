use Rattle.std.proofs.Common.{◌≡◌, ◌≤◌, ◌+◌, ℕ, List, ◌++◌, length, take, drop, map, All}
use Rattle.std.specs.List.{flat_map}
use Rattle.b2_base.specs.declared.extent.Extent.{Extent}
use Rattle.disk_model.specs.declared.area.DiskImage.{DiskImage}
use Rattle.blob_extents.specs.Bytes.{IsSafe}
use Rattle.blob_extents.specs.States.{pin_extent}
use Rattle.stored_contents.specs.Reads.{IsRead, zeros_of}
use Rattle.stored_contents.proofs.outgoing.Outgoing.bytes.Given as goal

abbrev pub invariant-loop-pin : goal.invariant-loop-pin
invariant-loop-pin g l = record {
  rests : IsRead (g.D.Disk.state l.initial.disk) (g.D.Disk.state l.disk);
  later : g.D.Disk.faults l.initial.disk ≤ g.D.Disk.faults l.disk;
  bytes :
      (meaning : Extent → List ℕ) (i : DiskImage)
      → ((e : Extent) → length (meaning e) ≡ e.len)
      → All (λ e. IsSafe (g.D.Disk.state l.initial.disk) e (meaning e)) (map pin_extent l.fn.self.pins.items)
      → (g.D.Disk.state l.initial.disk).reads i
      → l.bytes.items ++ take l.left (drop l.skip (flat_map meaning (map pin_extent (drop l.pin-index l.fn.self.pins.items))))
      ≡ take l.initial.left (drop l.initial.skip (flat_map meaning (map pin_extent l.fn.self.pins.items)));
  count :
      length l.bytes.items + length (take l.left (drop l.skip (flat_map zeros_of (map pin_extent (drop l.pin-index l.fn.self.pins.items)))))
      ≡ length (take l.initial.left (drop l.initial.skip (flat_map zeros_of (map pin_extent l.fn.self.pins.items))));
}
