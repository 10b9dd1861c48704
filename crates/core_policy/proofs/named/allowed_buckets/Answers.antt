use Rattle.std.proofs.Common.{true, Err, [], ◌∷◌, ◌++◌, ◌∙◌, sym, ap}
use Rattle.std.proofs.lemmas.Result.{err_from_is_err_and}
use Rattle.rule_table.specs.declared.fault.FaultKind.TheVariants.{NoBucket}
use Rattle.b2_types.specs.Fault.{plain}
use Rattle.b2_model.specs.Checks.{check, first_fault}
use Rattle.b2_model.specs.Policy.{call_rules, name_rule, token_rules}
use Rattle.new_versions.specs.Decided.{refused}
use Rattle.policy_rules.specs.Asked.{caller, judged}
use Rattle.core_policy.specs.Rules.{all_stand}
use Rattle.core_policy.proofs.Order.{by_front, by_third}
use Rattle.core_policy.proofs.named.allowed_buckets.Goals as goal

pub returns-in_err-may_call : goal.returns-in_err-may_call
returns-in_err-may_call c =
    let who = caller c.args.asker.now in
    let j = judged c.args.asked.now in
    let M = c.args.core.now in
    let p = err_from_is_err_and c.from_residual.result c.from_residual.ensures.1 in
    ap (refused plain) (p.1 ∙ ap Err p.2)
    ∙ by_front (token_rules c.args.t j.row.tokens (λ g. true) who ++ call_rules M j who) (all_stand M c.args.buckets.now) (name_rule M j who)
    (plain c.in_err-may_call.field-0.0) c.in_err-may_call.ensures

pub returns : goal.returns
returns c =
    let who = caller c.args.asker.now in
    let j = judged c.args.asked.now in
    let M = c.args.core.now in
    c.may_name.ensures
    ∙ by_third (token_rules c.args.t j.row.tokens (λ g. true) who ++ call_rules M j who) (all_stand M c.args.buckets.now) (name_rule M j who)
    c.in_ok-may_call.ensures (ap (λ b. first_fault (check NoBucket b ∷ [])) (sym c.if-is_any_absent.false ∙ c.is_any_absent.ensures))
