use Rattle.std.proofs.Common.{◌≡◌, true, Err, Some, rules, ◌++◌, ◌∙◌, sym, ap}
use Rattle.std.proofs.lemmas.Result.{err_from_is_err_and}
use Rattle.rule_table.specs.declared.fault.FaultKind.TheVariants as kinds
use Rattle.b2_types.specs.Fault.{plain}
use Rattle.b2_model.specs.Checks.{first_fault}
use Rattle.b2_model.specs.Policy.{call_rules, name_rule, token_rules}
use Rattle.b2_model.specs.Rows.{version_at}
use Rattle.b2_model.specs.State.{bucket_at}
use Rattle.new_versions.specs.Decided.{refused}
use Rattle.policy_rules.specs.Asked.{caller, judged}
use Rattle.core_policy.specs.Rules.{absent_beside, both, standing}
use Rattle.core_policy.proofs.Order.{by_front, by_third}
use Rattle.core_policy.proofs.named.allowed_pair.Goals as goal

pub returns-in_err-may_call-clause-rules : goal.returns-in_err-may_call-clause-rules
returns-in_err-may_call-clause-rules c =
    let who = caller c.args.asker.now in
    let j = judged c.args.asked.now in
    let M = c.args.core.now in
    let p = err_from_is_err_and c.from_residual.result c.from_residual.ensures.1 in
    ap (refused plain) (p.1 ∙ ap Err p.2)
    ∙ by_front (token_rules c.args.t j.row.tokens (λ g. true) who ++ call_rules M j who) (standing (absent_beside kinds.NoBucket kinds.NoFile (bucket_at M c.args.bucket)) (both (bucket_at M c.args.bucket) (version_at M c.args.source.now.bucket c.args.source.now.num))) (name_rule M j who)
    (plain c.in_err-may_call.field-0.0) c.in_err-may_call.ensures

pub returns-in_err-may_name-clause-rules : goal.returns-in_err-may_name-clause-rules
returns-in_err-may_name-clause-rules c =
    let who = caller c.args.asker.now in
    let j = judged c.args.asked.now in
    let M = c.args.core.now in
    let p = err_from_is_err_and c.from_residual-in_err-may_name.result c.from_residual-in_err-may_name.ensures.1 in
    let found : (both (bucket_at M c.args.bucket) (version_at M c.args.source.now.bucket c.args.source.now.num)) ≡ Some (c.in_ok-bucket.bucket.now, c.in_ok-version.version.now) = search rules in
    ap (refused plain) (p.1 ∙ ap Err p.2) ∙ c.in_err-may_name.ensures
    ∙ by_third (token_rules c.args.t j.row.tokens (λ g. true) who ++ call_rules M j who) (standing (absent_beside kinds.NoBucket kinds.NoFile (bucket_at M c.args.bucket)) (both (bucket_at M c.args.bucket) (version_at M c.args.source.now.bucket c.args.source.now.num))) (name_rule M j who)
    c.in_ok-may_call.ensures (ap (λ o. first_fault (standing (absent_beside kinds.NoBucket kinds.NoFile (bucket_at M c.args.bucket)) o)) (sym found))
