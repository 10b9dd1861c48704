use Rattle.std.proofs.Common.{◌≡◌, Some, refl, ap, sym, ◌∙◌}
use Rattle.b2_types.specs.declared.kinds.Mark.TheVariants.{Verified}
use Rattle.b2_types.specs.declared.record.ChangeOf.TheVariants as change
use Rattle.b2_model.specs.AskCopies.{copied_version, copy_body}
use Rattle.copy_calls.specs.Copied.{extents}
use Rattle.copy_calls.proofs.file.copy_file.Goals as goal

pub returns : goal.returns
returns c = λ copy M key bucket source next body.
    let version = c.in_ok-copied.ensures M next in (
      refl,
      rw (bucket, source)
          (ap (λ v. Some (change.Upload v c.args.bytes.now.content Verified c.args.bytes.now.digest)) version
          ∙ ap (λ content. Some (change.Upload (copied_version M c.args.t c.args.bucket.now c.args.version.now c.args.call.now) content Verified c.args.bytes.now.digest)) (sym body.content)
          ∙ ap (λ digest. Some (change.Upload (copied_version M c.args.t c.args.bucket.now c.args.version.now c.args.call.now) (copy_body (extents copy) c.args.version.now c.args.call.now.range).content Verified digest)) (sym body.digest)),
    )
