use Rattle.std.proofs.Common.{◌≡◌, Some, refl, sym, ap, ◌∙◌}
use Rattle.std.proofs.lemmas.Result.{IfOk-weaker}
use Rattle.std.specs.Option.{option_copied}
use Rattle.rule_table.specs.declared.call.CallName.TheVariants as names
use Rattle.rule_table.specs.declared.fault.FaultKind.TheVariants.{NoBucket}
use Rattle.b2_types.specs.Fault.{plain}
use Rattle.b2_types.specs.Naming.{on_name}
use Rattle.b2_types.specs.declared.answer.AnswerOf.TheVariants as answer
use Rattle.b2_types.specs.declared.call.Call.TheVariants as calls
use Rattle.b2_types.specs.declared.fault.Fault.{Fault}
use Rattle.b2_types.specs.declared.record.ChangeOf.TheVariants as change
use Rattle.b2_types.specs.declared.shown.Shown.TheVariants as shown
use Rattle.b2_model.specs.AskLarge.{new_start}
use Rattle.b2_model.specs.Checks.{first_fault}
use Rattle.b2_model.specs.Plan.{or_absent, writes}
use Rattle.b2_model.specs.Policy.{caller_of}
use Rattle.b2_model.specs.Shown.{shown_file}
use Rattle.b2_model.specs.State.{bucket_at}
use Rattle.new_versions.specs.Decided.{extent_len, fault_told}
use Rattle.new_versions.specs.Refusals.{refusal_fault}
use Rattle.policy_rules.specs.Asked.{caller}
use Rattle.core_policy.specs.Rules.{judged_on, rules_on, standing}
use Rattle.core_decisions.specs.Decided.{IsDecision}
use Rattle.core_decisions.specs.declared.decision.Decision.TheVariants as decision
use Rattle.core_decisions.proofs.Forms.{decided_for, denied_by, refused_by, some_is}
use Rattle.core_files.specs.Made.{made_at}
use Rattle.core_files.proofs.OnLarge.{start_form, start_plan, started}
use Rattle.core_files.proofs.large.start_file.Goals as goal

pub returns-in-Err : goal.returns-in-Err
returns-in-Err c =
    let M = c.args.core.now in
    let q = c.args.call.now in
    let token = option_copied c.args.token in
    let more = ap (λ more. first_fault (rules_on M c.args.t (judged_on names.StartLargeFile more (on_name q.bucket q.name)) (caller c.asker_of-asker.result) (standing NoBucket (bucket_at M q.bucket)))) c.more_for-more.ensures in
    denied_by M c.args.t token (calls.StartLargeFile q) (start_form M c.args.t token q) (caller c.asker_of-asker.result)
    (plain c.in-Err.kind) c.plain_refusal.result c.asker_of-asker.ensures c.plain_refusal.ensures (c.in-Err.ensures.rules ∙ more)

pub returns-in-Err-start_large_file : goal.returns-in-Err-start_large_file
returns-in-Err-start_large_file c =
    let M = c.args.core.now in
    let q = c.args.call.now in
    let token = option_copied c.args.token in
    let more = ap (λ more. first_fault (rules_on M c.args.t (judged_on names.StartLargeFile more (on_name q.bucket q.name)) (caller c.asker_of-asker.result) (standing NoBucket (bucket_at M q.bucket)))) c.more_for-more.ensures in
    let decided = c.in-Err-start_large_file.ensures M (caller_of M token).key c.in-Ok.ensures.found (sym c.next_number.ensures) in
    IfOk-weaker c.not_started.result (λ d. (fault : Fault) × (fault_told refusal_fault c.in-Err-start_large_file.error ≡ Some fault) × (d ≡ decision.Reply (answer.Refused fault))) (IsDecision M c.args.t token (calls.StartLargeFile q))
    (λ d told. refused_by M c.args.t token (calls.StartLargeFile q) (start_form M c.args.t token q) (caller c.asker_of-asker.result)
    told.0 d c.asker_of-asker.ensures told.2 (c.in-Ok.ensures.rules ∙ more)
    (λ copy words. sym told.1 ∙ decided.0)) c.not_started.ensures

-- the change that was decided on
pub show_made-requires : goal.show_made-requires
show_made-requires c =
    let M = c.args.core.now in
    let q = c.args.call.now in
    let token = option_copied c.args.token in
    let key = (caller_of M token).key in
    let r = c.in-Ok-start_large_file.record in
    let decided = c.in-Ok-start_large_file.ensures M key c.in-Ok.ensures.found (sym c.next_number.ensures) in
    let change_is = some_is r.change (change.Start (new_start M q)) (decided.1.1 ∙ ap (λ o. (or_absent NoBucket (start_plan M key c.args.t q) o).change) c.in-Ok.ensures.found) in
    rw change_is refl

pub returns : goal.returns
returns c =
    let M = c.args.core.now in
    let q = c.args.call.now in
    let token = option_copied c.args.token in
    let more = ap (λ more. first_fault (rules_on M c.args.t (judged_on names.StartLargeFile more (on_name q.bucket q.name)) (caller c.asker_of-asker.result) (standing NoBucket (bucket_at M q.bucket)))) c.more_for-more.ensures in
    let key = (caller_of M token).key in
    let b = c.in-Ok.bucket.now in
    let v = started M c.args.t q in
    let r = c.in-Ok-start_large_file.record in
    let decided = c.in-Ok-start_large_file.ensures M key c.in-Ok.ensures.found (sym c.next_number.ensures) in
    let change_is = some_is r.change (change.Start (new_start M q)) (decided.1.1 ∙ ap (λ o. (or_absent NoBucket (start_plan M key c.args.t q) o).change) c.in-Ok.ensures.found) in
    let shown_is = c.in_ok-shown.ensures v (ap (made_at r.at) change_is ∙ ap (λ n. made_at n (change.Start (new_start M q))) decided.1.0)
    ∙ ap (λ s. shown_file extent_len s (option_copied c.asker_of-asker.result.key) v) c.settings.ensures
    ∙ ap (λ w. shown_file extent_len M.settings w.key v) c.asker_of-asker.ensures in
    let own = (start_plan M key c.args.t q b).own in
    decided_for M c.args.t token (calls.StartLargeFile q) (start_form M c.args.t token q) (caller c.asker_of-asker.result)
    b r (λ copy words. own) (change.Start (new_start M q)) (shown.File c.in_ok-shown.shown)
    c.asker_of-asker.ensures (c.in-Ok.ensures.rules ∙ more) c.in-Ok.ensures.found
    (λ copy words. ap (λ s. writes own (change.Start (new_start M q)) (shown.File s)) (sym shown_is))
    (λ copy words. (decided.0, decided.1.1)) decided.1.0
