use Rattle.std.proofs.Common.{Some, None, option_copied, refl, sym, ap, ◌∙◌}
use Rattle.b2_types.specs.Fault.{plain}
use Rattle.b2_types.specs.declared.upload.UploadCall.TheVariants as uploads
use Rattle.b2_model.specs.Checks.{first_fault}
use Rattle.b2_model.specs.UploadSteps.{begin_rules}
use Rattle.new_versions.specs.Refusals.{refusal_fault}
use Rattle.policy_rules.specs.Asked.{caller}
use Rattle.core_uploads.proofs.Begins.{file_begins}
use Rattle.core_uploads.proofs.begin.file_fault.Goals as goal

pub returns-in-Err : goal.returns-in-Err
returns-in-Err c =
    let M = c.args.core.now in
    let u = c.args.upload.now in
    let token = option_copied c.args.token in
    ap Some c.plain.ensures
    ∙ file_begins M c.args.t token u (caller c.asker_of-asker.result) (Some (plain c.in-Err.kind)) (first_fault (begin_rules M c.args.t token (uploads.File u))) c.asker_of-asker.ensures c.in-Err.ensures.rules refl

pub returns-in-Err-may_upload : goal.returns-in-Err-may_upload
returns-in-Err-may_upload c =
    let M = c.args.core.now in
    let u = c.args.upload.now in
    let token = option_copied c.args.token in
    ap Some c.fault_of.ensures
    ∙ file_begins M c.args.t token u (caller c.asker_of-asker.result) None (Some (refusal_fault c.in-Err-may_upload.refused)) c.asker_of-asker.ensures c.in-Ok.ensures.rules
    (c.in-Err-may_upload.ensures M token c.in-Ok.ensures.found (sym c.next_number.ensures) (sym c.is_busy.ensures ∙ c.if-is_busy.false))
