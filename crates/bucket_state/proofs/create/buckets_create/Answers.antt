use Rattle.std.proofs.Common.{Some, refl, sym, ap}
use Rattle.b2_types.specs.declared.record.ChangeOf.TheVariants as change
use Rattle.b2_model.specs.AskBuckets.{create_bucket}
use Rattle.new_versions.proofs.Decisions.{wants_memory}
use Rattle.bucket_state.specs.Refusals.{bucket_fault}
use Rattle.bucket_state.proofs.create.buckets_create.Goals as goal

pub returns-in_err-bucket : goal.returns-in_err-bucket
returns-in_err-bucket c = λ M key is next.
    wants_memory bucket_fault c.args.t (create_bucket M key c.args.call.now) c.from_residual.result c.from_residual.ensures.1 (c.in_default.ensures M key is next)

pub returns : goal.returns
returns c = λ M key is next.
    (c.in_default.ensures M key is next, (refl, ap (λ b. Some (change.BucketMake b)) (c.in_ok-bucket.ensures M next)))
