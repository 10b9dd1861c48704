use Rattle.std.proofs.Common.{◌≡◌, List, map, take, All, Contains}
use Rattle.b2_base.specs.declared.extent.Extent.{Extent}
use Rattle.blob_extents.specs.States.{pin_extent}
use Rattle.stored_contents.specs.Room.{IsRoom, IsRoomWith}
use Rattle.stored_contents.proofs.contents.Contents.pin_all.Given as goal

abbrev pub invariant-loop-piece : goal.invariant-loop-piece
invariant-loop-piece l = record {
  room : (owned : List Extent) → IsRoom l.fn.self owned → All (Contains owned) l.fn.pieces → IsRoomWith l.self owned (map pin_extent l.pins.items);
  pieces : (owned : List Extent) → IsRoom l.fn.self owned → All (Contains owned) l.fn.pieces → map pin_extent l.pins.items ≡ take l.piece-index l.fn.pieces;
  released : l.self.blobs.released ≡ l.fn.self.blobs.released;
  incoming : l.self.incoming.entries ≡ l.fn.self.incoming.entries;
  outgoing : l.self.outgoing.items ≡ l.fn.self.outgoing.items;
}
