use Rattle.std.proofs.Common.{◌≡◌, ◌++◌, map, take}
use Rattle.std.specs.List.{flat_map}
use Rattle.b2_model.specs.Stored.{version_records}
use Rattle.core_snapshots.proofs.taken.add_versions.Given as goal

abbrev pub invariant-loop-version : goal.invariant-loop-version
invariant-loop-version l = l.records.items ≡ l.initial.records.items ++ flat_map version_records (map (λ v. v.now) (take l.version-index l.version-items))
