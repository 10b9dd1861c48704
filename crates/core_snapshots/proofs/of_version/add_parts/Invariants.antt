use Rattle.std.proofs.Common.{◌≡◌, ◌++◌, map, take}
use Rattle.b2_model.specs.Stored.{part_record}
use Rattle.core_snapshots.proofs.of_version.add_parts.Given as goal

abbrev pub invariant-loop-part : goal.invariant-loop-part
invariant-loop-part l = l.records.items ≡ l.initial.records.items ++ map (part_record l.version) (take l.part-index l.version.parts)
