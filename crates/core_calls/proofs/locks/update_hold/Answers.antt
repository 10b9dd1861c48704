use Rattle.std.proofs.Common.{refl, sym, ap, ◌∙◌}
use Rattle.std.specs.Option.{option_copied}
use Rattle.b2_types.specs.Fault.{plain}
use Rattle.b2_types.specs.declared.call.Call.TheVariants as calls
use Rattle.b2_types.specs.declared.record.ChangeOf.TheVariants as change
use Rattle.b2_types.specs.declared.shown.Shown.TheVariants as shown
use Rattle.b2_model.specs.AskFiles.{has_lock}
use Rattle.b2_model.specs.Checks.{first_fault}
use Rattle.b2_model.specs.Plan.{writes}
use Rattle.b2_model.specs.Shown.{shown_name}
use Rattle.policy_rules.specs.Asked.{caller}
use Rattle.core_decisions.proofs.Forms.{denied_by, refused_found, written_for}
use Rattle.core_calls.proofs.OnFiles.{hold_form, hold_rules}
use Rattle.core_calls.proofs.locks.update_hold.Goals as goal

pub returns-in-Err : goal.returns-in-Err
returns-in-Err c =
    let M = c.args.core.now in
    let q = c.args.call.now in
    let token = option_copied c.args.token in
    denied_by M c.args.t token (calls.UpdateFileLegalHold q) (hold_form M c.args.t token q) (caller c.asker_of-asker.result)
    (plain c.in-Err.kind) c.plain_refusal.result c.asker_of-asker.ensures c.plain_refusal.ensures c.in-Err.ensures.rules

pub returns-in-Some : goal.returns-in-Some
returns-in-Some c =
    let M = c.args.core.now in
    let q = c.args.call.now in
    let token = option_copied c.args.token in
    let v = c.in-Ok.version.now in
    refused_found M c.args.t token (calls.UpdateFileLegalHold q) (hold_form M c.args.t token q) (caller c.asker_of-asker.result)
    v c.in-Some.fault c.refusal.result c.asker_of-asker.ensures c.refusal.ensures c.in-Ok.ensures.rules c.in-Ok.ensures.found
    (λ copy words. c.in-Some.ensures ∙ ap (λ l. first_fault (hold_rules q v l)) c.has_lock.ensures)

pub returns : goal.returns
returns c =
    let M = c.args.core.now in
    let q = c.args.call.now in
    let token = option_copied c.args.token in
    let v = c.in-Ok.version.now in
    let own = hold_rules q v (has_lock M v.bucket) in
    written_for M c.args.t token (calls.UpdateFileLegalHold q) (hold_form M c.args.t token q) (caller c.asker_of-asker.result)
    v (record { at = c.args.t; change = change.Hold c.id_of.result q.hold }) (shown.Hold c.in_ok-shown.shown q.hold) c.asker_of-asker.ensures c.in-Ok.ensures.rules c.in-Ok.ensures.found
    (λ copy words. (
      own,
      ap (λ id. writes own (change.Hold id q.hold) (shown.Hold (shown_name v) q.hold)) (sym c.id_of.ensures) ∙ ap (λ name. writes own (change.Hold c.id_of.result q.hold) (shown.Hold name q.hold)) (sym c.in_ok-shown.ensures),
      c.in_default.ensures ∙ ap (λ l. first_fault (hold_rules q v l)) c.has_lock.ensures,
    ))
    refl
