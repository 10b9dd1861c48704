use Rattle.std.proofs.Common.{◌∙◌, [], ap, refl}
use Rattle.rule_table.specs.declared.call.CallName.TheVariants as calls
use Rattle.rule_table.specs.declared.fault.FaultKind.TheVariants as kinds
use Rattle.b2_types.specs.declared.fault.Target.TheVariants as target
use Rattle.b2_types.specs.Naming.{on_file}
use Rattle.b2_types.specs.Need.{need}
use Rattle.b2_model.specs.Checks.{first_fault}
use Rattle.b2_model.specs.Policy.{policy_rules}
use Rattle.b2_model.specs.Rows.{version_at}
use Rattle.b2_model.specs.UploadSteps.{fits}
use Rattle.policy_rules.specs.Asked.{caller, named}
use Rattle.core_policy.specs.Rules.{standing}
use Rattle.core_policy.proofs.Uploaded.{same_judged}
use Rattle.core_policy.proofs.uploads.part_upload_for.Goals as goal

pub returns-clause-rules : goal.returns-clause-rules
returns-clause-rules c =
    let u = c.args.upload.now in
    c.allowed_file.ensures.rules
    ∙ ap (λ j. first_fault (policy_rules c.args.core.now c.args.t j (fits (target.File u.bucket u.file)) (caller c.args.asker.now) (standing kinds.NoFile (version_at c.args.core.now u.bucket u.file))))
    (same_judged c.need_of.result.tokens.now c.need_of.result.caps.now c.need_of.result.things.now [] [] (named c.file_fields.result) (on_file u.bucket u.file)
    (need calls.UploadPart) c.need_of.ensures.tokens c.need_of.ensures.caps c.need_of.ensures.things refl c.file_fields.ensures)
