use Rattle.std.proofs.Common.{Some, ◌∙◌, ap}
use Rattle.b2_types.specs.Denied.{kind_of}
use Rattle.b2_types.specs.Fault.{plain}
use Rattle.b2_model.specs.Policy.{call_rules, token_rules}
use Rattle.b2_model.specs.UploadSteps.{fits}
use Rattle.policy_rules.specs.Asked.{caller, judged}
use Rattle.core_policy.proofs.Order.{by_first, by_next}
use Rattle.core_policy.proofs.uploads.may_upload.Goals as goal

pub returns-in-Err-call_rule : goal.returns-in-Err-call_rule
returns-in-Err-call_rule c =
    let who = caller c.args.asker.now in
    let j = judged c.args.asked.now in
    ap (λ kind. Some (plain kind)) c.kind-in-Err-call_rule.ensures ∙ c.in-Err-call_rule.ensures
    ∙ by_next (token_rules c.args.t j.row.tokens (fits c.args.target) who) (call_rules c.args.core.now j who) c.in_default.ensures

pub returns-in-Err : goal.returns-in-Err
returns-in-Err c =
    let who = caller c.args.asker.now in
    let j = judged c.args.asked.now in
    ap (λ kind. Some (plain kind)) c.kind.ensures
    ∙ by_first (token_rules c.args.t j.row.tokens (fits c.args.target) who) (call_rules c.args.core.now j who) (plain (kind_of c.in-Err.denial)) c.in-Err.ensures
