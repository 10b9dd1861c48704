use Rattle.std.proofs.Common.{◌≡◌, ◌++◌, map, take}
use Rattle.b2_types.specs.declared.record.ChangeOf.TheVariants as change
use Rattle.b2_model.specs.Stored.{as_new, record_at}
use Rattle.core_snapshots.proofs.of_version.add_upload.Given as goal

abbrev pub invariant-loop-content : goal.invariant-loop-content
invariant-loop-content l =
    l.records.items ≡ l.initial.records.items
    ++ map (λ content. record_at l.version.stamp (change.Upload (as_new l.version) content l.version.mark l.version.digest)) (take l.content-index l.version.content)
