use Rattle.std.proofs.Common.{refl, sym, ap, ◌∙◌}
use Rattle.std.specs.Option.{option_copied}
use Rattle.rule_table.specs.declared.cap.Cap.TheVariants.{BypassGovernance}
use Rattle.b2_types.specs.Fault.{plain}
use Rattle.b2_types.specs.declared.call.Call.TheVariants as calls
use Rattle.b2_types.specs.declared.record.ChangeOf.TheVariants as change
use Rattle.b2_types.specs.declared.shown.Shown.TheVariants as shown
use Rattle.b2_model.specs.AskFiles.{has_lock}
use Rattle.b2_model.specs.Checks.{first_fault}
use Rattle.b2_model.specs.Plan.{writes}
use Rattle.b2_model.specs.Policy.{caller_of}
use Rattle.b2_model.specs.Shown.{may, shown_name}
use Rattle.policy_rules.specs.Asked.{caller}
use Rattle.core_decisions.proofs.Forms.{denied_by, refused_found, written_for}
use Rattle.core_calls.proofs.OnFiles.{retention_form, new_retention_rules}
use Rattle.core_calls.proofs.locks.update_retention.Goals as goal

pub returns-in-Err : goal.returns-in-Err
returns-in-Err c =
    let M = c.args.core.now in
    let q = c.args.call.now in
    let token = option_copied c.args.token in
    denied_by M c.args.t token (calls.UpdateFileRetention q) (retention_form M c.args.t token q) (caller c.asker_of-asker.result)
    (plain c.in-Err.kind) c.plain_refusal.result c.asker_of-asker.ensures c.plain_refusal.ensures c.in-Err.ensures.rules

pub returns-in-Some : goal.returns-in-Some
returns-in-Some c =
    let M = c.args.core.now in
    let q = c.args.call.now in
    let token = option_copied c.args.token in
    let v = c.in-Ok.version.now in
    let bypasses = c.may_read-may.ensures ∙ ap (λ w. may w.key BypassGovernance) c.asker_of-asker.ensures in
    refused_found M c.args.t token (calls.UpdateFileRetention q) (retention_form M c.args.t token q) (caller c.asker_of-asker.result)
    v c.in-Some.fault c.refusal.result c.asker_of-asker.ensures c.refusal.ensures c.in-Ok.ensures.rules c.in-Ok.ensures.found
    (λ copy words. c.in-Some.ensures ∙ ap (λ l. first_fault (new_retention_rules c.args.t q v l c.may_read-may.result)) c.has_lock-lock.ensures ∙ ap (λ m. first_fault (new_retention_rules c.args.t q v (has_lock M v.bucket) m)) bypasses)

pub returns : goal.returns
returns c =
    let M = c.args.core.now in
    let q = c.args.call.now in
    let token = option_copied c.args.token in
    let v = c.in-Ok.version.now in
    let bypasses = c.may_read-may.ensures ∙ ap (λ w. may w.key BypassGovernance) c.asker_of-asker.ensures in
    let own = new_retention_rules c.args.t q v (has_lock M v.bucket) (may (caller_of M token).key BypassGovernance) in
    written_for M c.args.t token (calls.UpdateFileRetention q) (retention_form M c.args.t token q) (caller c.asker_of-asker.result)
    v (record { at = c.args.t; change = change.Retain c.id_of.result q.retention }) (shown.Retention c.in_ok-shown.shown q.retention) c.asker_of-asker.ensures c.in-Ok.ensures.rules c.in-Ok.ensures.found
    (λ copy words. (
      own,
      ap (λ id. writes own (change.Retain id q.retention) (shown.Retention (shown_name v) q.retention)) (sym c.id_of.ensures) ∙ ap (λ name. writes own (change.Retain c.id_of.result q.retention) (shown.Retention name q.retention)) (sym c.in_ok-shown.ensures),
      c.in_default.ensures ∙ ap (λ l. first_fault (new_retention_rules c.args.t q v l c.may_read-may.result)) c.has_lock-lock.ensures ∙ ap (λ m. first_fault (new_retention_rules c.args.t q v (has_lock M v.bucket) m)) bypasses,
    ))
    refl
