use Rattle.std.proofs.Common.{Err, option_copied, ◌++◌, ◌∙◌, sym, ap}
use Rattle.std.proofs.lemmas.Result.{err_from_is_err_and}
use Rattle.rule_table.specs.declared.fault.FaultKind.TheVariants as kinds
use Rattle.b2_types.specs.Fault.{plain}
use Rattle.b2_model.specs.Checks.{first_fault}
use Rattle.b2_model.specs.Policy.{call_rules, name_rule, token_rules}
use Rattle.b2_model.specs.State.{bucket_at}
use Rattle.b2_model.specs.UploadSteps.{fits}
use Rattle.new_versions.specs.Decided.{refused}
use Rattle.policy_rules.specs.Asked.{caller, judged}
use Rattle.core_policy.specs.Rules.{standing}
use Rattle.core_policy.proofs.Order.{by_first, by_front, by_next, by_third}
use Rattle.core_policy.proofs.uploads.allowed_bucket.Goals as goal

pub returns-in_err-may_upload-clause-rules : goal.returns-in_err-may_upload-clause-rules
returns-in_err-may_upload-clause-rules c =
    let who = caller c.args.asker.now in
    let j = judged c.args.asked.now in
    let M = c.args.core.now in
    let p = err_from_is_err_and c.from_residual.result c.from_residual.ensures.1 in
    ap (refused plain) (p.1 ∙ ap Err p.2)
    ∙ by_front (token_rules c.args.t j.row.tokens (fits c.args.target) who ++ call_rules M j who) (standing kinds.NoBucket (bucket_at M c.args.bucket)) (name_rule M j who)
    (plain c.in_err-may_upload.field-0.0) c.in_err-may_upload.ensures

pub returns-in_err-may_name-clause-rules : goal.returns-in_err-may_name-clause-rules
returns-in_err-may_name-clause-rules c =
    let who = caller c.args.asker.now in
    let j = judged c.args.asked.now in
    let M = c.args.core.now in
    let p = err_from_is_err_and c.from_residual-in_err-may_name.result c.from_residual-in_err-may_name.ensures.1 in
    ap (refused plain) (p.1 ∙ ap Err p.2) ∙ c.in_err-may_name.ensures
    ∙ by_third (token_rules c.args.t j.row.tokens (fits c.args.target) who ++ call_rules M j who) (standing kinds.NoBucket (bucket_at M c.args.bucket)) (name_rule M j who)
    c.in_ok-may_upload.ensures (ap (λ o. first_fault (standing kinds.NoBucket o)) (ap option_copied (sym c.in-Some.is) ∙ c.bucket.ensures))

pub returns-in_default-clause-rules : goal.returns-in_default-clause-rules
returns-in_default-clause-rules c =
    let who = caller c.args.asker.now in
    let j = judged c.args.asked.now in
    let M = c.args.core.now in
    let front = token_rules c.args.t j.row.tokens (fits c.args.target) who ++ call_rules M j who in
    let exists = standing kinds.NoBucket (bucket_at M c.args.bucket) in
    by_first (front ++ exists) (name_rule M j who) (plain kinds.NoBucket)
    (ap (λ o. first_fault (standing kinds.NoBucket o)) c.in_default.ensures ∙ by_next front exists c.in_ok-may_upload.ensures)
