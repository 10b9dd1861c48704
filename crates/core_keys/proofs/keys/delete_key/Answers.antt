use Rattle.std.proofs.Common.{◌==◌, [], ◌∷◌, refl, sym, ap, ◌∙◌}
use Rattle.std.specs.Option.{option_copied}
use Rattle.rule_table.specs.declared.fault.FaultKind.TheVariants.{Master}
use Rattle.b2_types.specs.Fault.{plain}
use Rattle.b2_types.specs.declared.answer.AnswerOf.TheVariants as answer
use Rattle.b2_types.specs.declared.call.Call.TheVariants as calls
use Rattle.b2_types.specs.declared.record.ChangeOf.TheVariants as change
use Rattle.b2_types.specs.declared.shown.Shown.TheVariants as shown
use Rattle.b2_model.specs.Checks.{check}
use Rattle.b2_model.specs.Plan.{writes}
use Rattle.b2_model.specs.Shown.{shown_key}
use Rattle.app_keys.specs.Keys.{kind_of}
use Rattle.policy_rules.specs.Asked.{caller}
use Rattle.core_decisions.specs.declared.decision.Decision.TheVariants as decision
use Rattle.core_decisions.proofs.Forms.{denied_by, refused_found, some_is, written_for}
use Rattle.core_keys.proofs.OnKeys.{delete_form}
use Rattle.core_keys.proofs.keys.delete_key.Goals as goal

pub returns-in-Err : goal.returns-in-Err
returns-in-Err c =
    let M = c.args.core.now in
    let q = c.args.call.now in
    let token = option_copied c.args.token in
    denied_by M c.args.t token (calls.DeleteKey q) (delete_form M c.args.t token q) (caller c.asker_of-asker.result)
    (plain c.in-Err.kind) c.plain_refusal.result c.asker_of-asker.ensures c.plain_refusal.ensures c.in-Err.ensures.rules

pub returns-in-Err-keys_delete : goal.returns-in-Err-keys_delete
returns-in-Err-keys_delete c =
    let M = c.args.core.now in
    let q = c.args.call.now in
    let token = option_copied c.args.token in
    let refused = c.in-Err-keys_delete.refused in
    refused_found M c.args.t token (calls.DeleteKey q) (delete_form M c.args.t token q) (caller c.asker_of-asker.result)
    c.in-Ok.key.now (plain (kind_of refused)) c.refusal.result c.asker_of-asker.ensures
    (c.refusal.ensures ∙ ap (λ f. decision.Reply (answer.Refused f)) c.fault_of.ensures) c.in-Ok.ensures.rules c.in-Ok.ensures.found
    (λ copy words. sym (c.in-Err-keys_delete.ensures.refused q.version M))

pub returns : goal.returns
returns c =
    let M = c.args.core.now in
    let q = c.args.call.now in
    let token = option_copied c.args.token in
    let k = c.in-Ok.key.now in
    let own = check Master (k.num == 0) ∷ [] in
    let shown_is = c.in_ok-shown.ensures ∙ ap (λ s. shown_key q.version s k) c.settings.ensures in
    let change_is = some_is (change.KeyDrop k.num) (change.KeyDrop c.in-Ok-keys_delete.num) (c.in-Ok-keys_delete.ensures.change q.version M) in
    written_for M c.args.t token (calls.DeleteKey q) (delete_form M c.args.t token q) (caller c.asker_of-asker.result)
    k (record { at = c.args.t; change = change.KeyDrop c.in-Ok-keys_delete.num }) (shown.Key c.in_ok-shown.shown) c.asker_of-asker.ensures c.in-Ok.ensures.rules c.in-Ok.ensures.found
    (λ copy words. (
      own,
      ap (λ ch. writes own ch (shown.Key (shown_key q.version M.settings k))) change_is ∙ ap (λ s. writes own (change.KeyDrop c.in-Ok-keys_delete.num) (shown.Key s)) (sym shown_is),
      sym (c.in-Ok-keys_delete.ensures.passed q.version M),
    ))
    refl
