use Rattle.std.proofs.Common.{◌≡◌, ℕ, List, length, All, Contains}
use Rattle.b2_base.specs.declared.extent.Extent.{Extent}
use Rattle.stored_contents.specs.Reads.{outgoing_at}
use Rattle.stored_contents.specs.Room.{IsRoom}
use Rattle.stored_contents.proofs.contents.Contents.end_reading.Given as goal

abbrev pub invariant-loop-place : goal.invariant-loop-place
invariant-loop-place g l = record {
  room : (owned : List Extent) → IsRoom l.fn.self owned → IsRoom l.self owned;
  released : All (Contains l.fn.self.blobs.released) l.self.blobs.released;
  incoming : l.self.incoming.entries ≡ l.fn.self.incoming.entries;
  others : (q : ℕ) → (l.fn.c ≡ q → ⊥) → outgoing_at l.self q ≡ outgoing_at l.fn.self q;
}

abbrev pub decreases-loop-place : goal.decreases-loop-place
decreases-loop-place g l = length l.self.outgoing.items
