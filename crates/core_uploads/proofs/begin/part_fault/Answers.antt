use Rattle.std.proofs.Common.{Some, None, option_copied, refl, sym, ap, ◌∙◌}
use Rattle.b2_types.specs.Fault.{plain}
use Rattle.b2_types.specs.declared.upload.UploadCall.TheVariants as uploads
use Rattle.b2_model.specs.Checks.{first_fault}
use Rattle.b2_model.specs.UploadSteps.{begin_rules}
use Rattle.large_files.specs.Refusals.{large_fault}
use Rattle.policy_rules.specs.Asked.{caller}
use Rattle.core_uploads.proofs.Begins.{part_begins}
use Rattle.core_uploads.proofs.begin.part_fault.Goals as goal

pub returns-in-Err : goal.returns-in-Err
returns-in-Err c =
    let M = c.args.core.now in
    let u = c.args.upload.now in
    let token = option_copied c.args.token in
    ap Some c.plain.ensures
    ∙ part_begins M c.args.t token u (caller c.asker_of-asker.result) (Some (plain c.in-Err.kind)) (first_fault (begin_rules M c.args.t token (uploads.Part u))) c.asker_of-asker.ensures c.in-Err.ensures.rules refl

pub returns-in-Ok-may_put_part : goal.returns-in-Ok-may_put_part
returns-in-Ok-may_put_part c =
    let M = c.args.core.now in
    let u = c.args.upload.now in
    let token = option_copied c.args.token in
    part_begins M c.args.t token u (caller c.asker_of-asker.result) None None c.asker_of-asker.ensures c.in-Ok.ensures.rules
    (c.in-Ok-may_put_part.ensures M c.args.t token u c.in-Ok.ensures.found (sym c.is_busy.ensures ∙ c.if-is_busy.false))

pub returns-in-Err-may_put_part : goal.returns-in-Err-may_put_part
returns-in-Err-may_put_part c =
    let M = c.args.core.now in
    let u = c.args.upload.now in
    let token = option_copied c.args.token in
    ap Some c.not_large_fault.ensures
    ∙ part_begins M c.args.t token u (caller c.asker_of-asker.result) None (Some (large_fault c.in-Err-may_put_part.refused)) c.asker_of-asker.ensures c.in-Ok.ensures.rules
    (c.in-Err-may_put_part.ensures M c.args.t token u c.in-Ok.ensures.found (sym c.is_busy.ensures ∙ c.if-is_busy.false))
