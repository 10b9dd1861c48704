use Rattle.std.proofs.Common.{◌≡◌, Some, refl, ap, ◌∙◌}
use Rattle.b2_types.specs.declared.record.ChangeOf.TheVariants as change
use Rattle.b2_model.specs.UploadSteps.{mark_of, new_upload, file_end}
use Rattle.new_versions.specs.Bodies.{body_at}
use Rattle.new_versions.specs.Decided.{extent_len}
use Rattle.new_versions.specs.Refusals.{refusal_fault}
use Rattle.new_versions.proofs.Decisions.{wants_memory, number_is}
use Rattle.new_versions.proofs.uploads.upload.Goals as goal

pub returns-in-Err : goal.returns-in-Err
returns-in-Err c = λ M key is. (c.in-Err.ensures.rules M key is, tt)

pub returns-in_err-version : goal.returns-in_err-version
returns-in_err-version c = λ M key is.
    wants_memory refusal_fault c.args.t (file_end extent_len M c.args.t key (body_at c.args.body.now) c.args.call.now c.args.bucket.now) c.from_residual.result
    c.from_residual.ensures.1 (c.in-Ok.ensures.rules M key is)

pub returns : goal.returns
returns c = λ M key is.
    let call = c.args.call.now in
    let body = c.args.body.now in
    let version = c.in_ok-version.ensures M (number_is M c.in-Ok.num (is ∙ c.in-Ok.ensures.number)) in (
      c.in-Ok.ensures.rules M key is,
      (
        refl,
        ap (λ v. Some (change.Upload v body.content c.mark_of.result body.digest)) version
            ∙ ap (λ m. Some (change.Upload (new_upload M c.args.t c.args.bucket.now call) body.content m body.digest)) c.mark_of.ensures,
      ),
    )
