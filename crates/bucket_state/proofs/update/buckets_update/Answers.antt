use Rattle.std.proofs.Common.{Some, refl, ap, subst}
use Rattle.b2_types.specs.declared.record.ChangeOf.TheVariants as change
use Rattle.b2_model.specs.AskBuckets.{update_bucket}
use Rattle.new_versions.proofs.Decisions.{wants_memory}
use Rattle.bucket_state.specs.Refusals.{bucket_fault}
use Rattle.bucket_state.proofs.update.buckets_update.Goals as goal

pub update-requires : goal.update-requires
update-requires c = c.in_default.ensures.left

pub returns-in_err-updated : goal.returns-in_err-updated
returns-in_err-updated c = λ M key is.
    wants_memory bucket_fault c.args.t (update_bucket M key c.args.call.now) c.from_residual.result c.from_residual.ensures.1 (c.in_default.ensures.first M key is)
