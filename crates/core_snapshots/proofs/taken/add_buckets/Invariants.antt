use Rattle.std.proofs.Common.{◌≡◌, ◌++◌, map, take}
use Rattle.b2_types.specs.declared.record.ChangeOf.TheVariants as change
use Rattle.b2_model.specs.Stored.{record_at}
use Rattle.core_snapshots.proofs.taken.add_buckets.Given as goal

abbrev pub invariant-loop-bucket : goal.invariant-loop-bucket
invariant-loop-bucket l = l.records.items ≡ l.initial.records.items ++ map (λ b. record_at l.core.kept (change.BucketMake b)) (take l.bucket-index l.core.buckets)
