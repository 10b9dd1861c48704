use Rattle.std.proofs.Common.{◌≡◌, map, filter, take}
use Rattle.b2_model.specs.AskBuckets.{fits_filters}
use Rattle.bucket_state.proofs.list.buckets_list.Given as goal

abbrev pub invariant-loop-bucket : goal.invariant-loop-bucket
invariant-loop-bucket l = map (λ b. b.now) l.rows.items ≡ filter (fits_filters l.call) (take l.bucket-index l.all)
