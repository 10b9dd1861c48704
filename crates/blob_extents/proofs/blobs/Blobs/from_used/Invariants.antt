use Rattle.std.proofs.Common.{◌≡◌, map, take}
use Rattle.blob_extents.specs.States.{kept_extent}
use Rattle.blob_extents.proofs.blobs.Blobs.from_used.Given as goal

abbrev pub invariant-loop-extent : goal.invariant-loop-extent
invariant-loop-extent l = map kept_extent l.kept.items ≡ take l.extent-index l.used
