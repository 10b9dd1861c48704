use Rattle.std.proofs.Common.{◌≡◌, map, take}
use Rattle.std.specs.List.{flat_map}
use Rattle.contents_agree.specs.ContentsOf.{contents_in}
use Rattle.core_snapshots.proofs.held.extents.Given as goal

abbrev pub invariant-loop-version : goal.invariant-loop-version
invariant-loop-version l = l.extents.items ≡ flat_map contents_in (map (λ v. v.now) (take l.version-index l.version-items))
