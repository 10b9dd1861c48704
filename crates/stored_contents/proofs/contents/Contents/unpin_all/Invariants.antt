use Rattle.std.proofs.Common.{◌≡◌, List, map, length, All, Contains}
use Rattle.b2_base.specs.declared.extent.Extent.{Extent}
use Rattle.blob_extents.specs.States.{pin_extent}
use Rattle.stored_contents.specs.Room.{IsRoomWith}
use Rattle.stored_contents.proofs.contents.Contents.unpin_all.Given as goal

abbrev pub invariant-loop-pin : goal.invariant-loop-pin
invariant-loop-pin l = record {
  room : (owned : List Extent) → IsRoomWith l.fn.self owned (map pin_extent l.fn.pins.items) → IsRoomWith l.self owned (map pin_extent l.pins.items);
  released : All (Contains l.fn.self.blobs.released) l.self.blobs.released;
  incoming : l.self.incoming.entries ≡ l.fn.self.incoming.entries;
  outgoing : l.self.outgoing.items ≡ l.fn.self.outgoing.items;
}

abbrev pub decreases-loop-pin : goal.decreases-loop-pin
decreases-loop-pin l = length l.pins.items
