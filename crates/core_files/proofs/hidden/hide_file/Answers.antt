use Rattle.std.proofs.Common.{◌≡◌, Some, refl, sym, ap, ◌∙◌}
use Rattle.std.proofs.lemmas.Result.{IfOk-weaker}
use Rattle.std.specs.Option.{option_copied}
use Rattle.rule_table.specs.declared.fault.FaultKind.TheVariants.{NoBucket}
use Rattle.b2_types.specs.Fault.{plain}
use Rattle.b2_types.specs.declared.answer.AnswerOf.TheVariants as answer
use Rattle.b2_types.specs.declared.call.Call.TheVariants as calls
use Rattle.b2_types.specs.declared.fault.Fault.{Fault}
use Rattle.b2_types.specs.declared.record.ChangeOf.TheVariants as change
use Rattle.b2_types.specs.declared.shown.Shown.TheVariants as shown
use Rattle.b2_model.specs.Plan.{id_of, or_absent, writes}
use Rattle.b2_model.specs.Policy.{caller_of}
use Rattle.b2_model.specs.Shown.{shown_file}
use Rattle.new_versions.specs.Decided.{extent_len, fault_told}
use Rattle.new_versions.specs.Refusals.{hide_fault}
use Rattle.policy_rules.specs.Asked.{caller}
use Rattle.core_decisions.specs.Decided.{IsDecision}
use Rattle.core_decisions.specs.declared.decision.Decision.TheVariants as decision
use Rattle.core_decisions.proofs.Forms.{decided_for, denied_by, refused_by, some_is}
use Rattle.core_files.specs.Made.{made_at}
use Rattle.core_files.proofs.OnHides.{hide_form, hide_plan, hides}
use Rattle.core_files.proofs.hidden.hide_file.Goals as goal

pub returns-in-Err : goal.returns-in-Err
returns-in-Err c =
    let M = c.args.core.now in
    let q = c.args.call.now in
    let token = option_copied c.args.token in
    denied_by M c.args.t token (calls.HideFile q) (hide_form M c.args.t token q) (caller c.asker_of-asker.result)
    (plain c.in-Err.kind) c.plain_refusal.result c.asker_of-asker.ensures c.plain_refusal.ensures c.in-Err.ensures.rules

pub returns-in-Err-hide : goal.returns-in-Err-hide
returns-in-Err-hide c =
    let M = c.args.core.now in
    let q = c.args.call.now in
    let token = option_copied c.args.token in
    let decided = c.in-Err-hide.ensures M (caller_of M token).key c.in-Ok.ensures.found (sym c.next_number.ensures) c.in_ok-newest.ensures in
    IfOk-weaker c.not_hidden.result (λ d. (fault : Fault) × (fault_told hide_fault c.in-Err-hide.error ≡ Some fault) × (d ≡ decision.Reply (answer.Refused fault))) (IsDecision M c.args.t token (calls.HideFile q))
    (λ d told. refused_by M c.args.t token (calls.HideFile q) (hide_form M c.args.t token q) (caller c.asker_of-asker.result)
    told.0 d c.asker_of-asker.ensures told.2 c.in-Ok.ensures.rules
    (λ copy words. sym told.1 ∙ decided.0)) c.not_hidden.ensures

-- the change that was decided on
pub show_made-requires : goal.show_made-requires
show_made-requires c =
    let M = c.args.core.now in
    let q = c.args.call.now in
    let token = option_copied c.args.token in
    let key = (caller_of M token).key in
    let r = c.in-Ok-hide.record in
    let decided = c.in-Ok-hide.ensures M key c.in-Ok.ensures.found (sym c.next_number.ensures) c.in_ok-newest.ensures in
    let change_is = some_is r.change (change.Hide (id_of (hides M c.args.t q c.in-Ok.bucket.now)) q.name) (decided.1.1 ∙ ap (λ o. (or_absent NoBucket (hide_plan M key c.args.t q) o).change) c.in-Ok.ensures.found) in
    rw change_is refl

pub returns : goal.returns
returns c =
    let M = c.args.core.now in
    let q = c.args.call.now in
    let token = option_copied c.args.token in
    let key = (caller_of M token).key in
    let b = c.in-Ok.bucket.now in
    let v = hides M c.args.t q b in
    let r = c.in-Ok-hide.record in
    let decided = c.in-Ok-hide.ensures M key c.in-Ok.ensures.found (sym c.next_number.ensures) c.in_ok-newest.ensures in
    let change_is = some_is r.change (change.Hide (id_of v) q.name) (decided.1.1 ∙ ap (λ o. (or_absent NoBucket (hide_plan M key c.args.t q) o).change) c.in-Ok.ensures.found) in
    let shown_is = c.in_ok-shown.ensures v (ap (made_at r.at) change_is ∙ ap (λ n. made_at n (change.Hide (id_of v) q.name)) decided.1.0)
    ∙ ap (λ s. shown_file extent_len s (option_copied c.asker_of-asker.result.key) v) c.settings.ensures
    ∙ ap (λ w. shown_file extent_len M.settings w.key v) c.asker_of-asker.ensures in
    let own = (hide_plan M key c.args.t q b).own in
    decided_for M c.args.t token (calls.HideFile q) (hide_form M c.args.t token q) (caller c.asker_of-asker.result)
    b r (λ copy words. own) (change.Hide (id_of v) q.name) (shown.File c.in_ok-shown.shown)
    c.asker_of-asker.ensures c.in-Ok.ensures.rules c.in-Ok.ensures.found
    (λ copy words. ap (λ s. writes own (change.Hide (id_of v) q.name) (shown.File s)) (sym shown_is))
    (λ copy words. (decided.0, decided.1.1)) decided.1.0
