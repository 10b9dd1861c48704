use Rattle.std.proofs.Common.{true, Err, [], ◌++◌, refl, ap, ◌∙◌}
use Rattle.std.proofs.lemmas.Result.{err_from_is_err_and}
use Rattle.rule_table.specs.declared.call.CallName.TheVariants.{DeleteKey}
use Rattle.rule_table.specs.declared.fault.FaultKind.TheVariants.{NoKey}
use Rattle.b2_types.specs.Fault.{plain}
use Rattle.b2_types.specs.Naming.{nothing}
use Rattle.b2_model.specs.AskKeys.{key_of_id}
use Rattle.b2_model.specs.Policy.{call_rules, name_rule, token_rules}
use Rattle.new_versions.specs.Decided.{refused}
use Rattle.policy_rules.specs.Asked.{caller}
use Rattle.core_policy.specs.Rules.{judged_on, standing}
use Rattle.core_keys.proofs.KeyRules.{still_refused}
use Rattle.core_keys.proofs.lookup.key_for.Goals as goal

pub returns-in_err-call_for-clause-rules : goal.returns-in_err-call_for-clause-rules
returns-in_err-call_for-clause-rules c =
    let M = c.args.core.now in
    let who = caller c.args.asker.now in
    let j = judged_on DeleteKey [] nothing in
    let p = err_from_is_err_and c.from_residual.result c.from_residual.ensures.1 in
    ap (refused plain) (p.1 ∙ ap Err p.2)
    ∙ still_refused (token_rules c.args.t j.row.tokens (λ g. true) who ++ call_rules M j who) (standing NoKey (key_of_id M c.args.id.now)) (name_rule M j who)
    (plain c.in_err-call_for.field-0.0) refl c.in_err-call_for.ensures
