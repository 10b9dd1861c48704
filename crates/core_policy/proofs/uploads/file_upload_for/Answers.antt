use Rattle.std.proofs.Common.{◌∙◌, ap}
use Rattle.rule_table.specs.declared.call.CallName.TheVariants as calls
use Rattle.rule_table.specs.declared.fault.FaultKind.TheVariants as kinds
use Rattle.b2_types.specs.declared.fault.Target.TheVariants as target
use Rattle.b2_types.specs.declared.upload.UploadCall.TheVariants as uploads
use Rattle.b2_types.specs.Naming.{on_name}
use Rattle.b2_types.specs.Need.{lock_caps, need, upload_more_caps}
use Rattle.b2_model.specs.Checks.{first_fault}
use Rattle.b2_model.specs.Policy.{policy_rules}
use Rattle.b2_model.specs.State.{bucket_at}
use Rattle.b2_model.specs.UploadSteps.{fits}
use Rattle.policy_rules.specs.Asked.{caller, named}
use Rattle.core_policy.specs.Rules.{standing}
use Rattle.core_policy.proofs.Uploaded.{same_judged}
use Rattle.core_policy.proofs.uploads.file_upload_for.Goals as goal

pub returns-clause-rules : goal.returns-clause-rules
returns-clause-rules c =
    let u = c.args.upload.now in
    c.allowed_bucket.ensures.rules
    ∙ ap (λ j. first_fault (policy_rules c.args.core.now c.args.t j (fits (target.Bucket u.bucket)) (caller c.args.asker.now) (standing kinds.NoBucket (bucket_at c.args.core.now u.bucket))))
    (same_judged c.need_of.result.tokens.now c.need_of.result.caps.now c.need_of.result.things.now c.lock_caps.result.now (upload_more_caps (uploads.File u)) (named c.name_fields.result) (on_name u.bucket u.name)
    (need calls.UploadFile) c.need_of.ensures.tokens c.need_of.ensures.caps c.need_of.ensures.things (c.lock_caps.ensures ∙ ap (λ retained. lock_caps retained u.hold) c.is_some.ensures) c.name_fields.ensures)
