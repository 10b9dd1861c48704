use Rattle.std.proofs.Common.{◌≡◌, Some, refl, sym, ap, ◌∙◌}
use Rattle.std.proofs.lemmas.Result.{IfOk-weaker}
use Rattle.std.specs.Option.{option_copied}
use Rattle.b2_types.specs.Fault.{plain}
use Rattle.b2_types.specs.declared.fault.Fault.{Fault}
use Rattle.b2_types.specs.declared.answer.AnswerOf.TheVariants as answer
use Rattle.b2_types.specs.declared.call.Call.TheVariants as calls
use Rattle.b2_types.specs.declared.record.ChangeOf.TheVariants as change
use Rattle.b2_types.specs.declared.shown.Shown.TheVariants as shown
use Rattle.b2_model.specs.Plan.{or_absent, writes}
use Rattle.b2_model.specs.Policy.{caller_of}
use Rattle.b2_model.specs.Shown.{shown_bucket}
use Rattle.new_versions.specs.Decided.{fault_told}
use Rattle.bucket_state.specs.Refusals.{bucket_fault}
use Rattle.policy_rules.specs.Asked.{caller}
use Rattle.core_calls.specs.Buckets.{bucket_in}
use Rattle.core_decisions.specs.Decided.{IsDecision}
use Rattle.core_decisions.specs.declared.decision.Decision.TheVariants as decision
use Rattle.core_decisions.proofs.Forms.{denied_by, refused_by, decided_for, some_is}
use Rattle.rule_table.specs.declared.call.CallName.TheVariants as names
use Rattle.rule_table.specs.declared.fault.FaultKind.TheVariants.{NoBucket}
use Rattle.b2_types.specs.Naming.{on_account}
use Rattle.b2_model.specs.AskBuckets.{updated_bucket}
use Rattle.b2_model.specs.Checks.{first_fault}
use Rattle.b2_model.specs.State.{bucket_at}
use Rattle.core_policy.specs.Rules.{judged_on, rules_on, standing}
use Rattle.core_calls.proofs.OnBuckets.{update_form, update_plan}
use Rattle.core_calls.proofs.buckets.update_bucket.Goals as goal

pub returns-in-Err : goal.returns-in-Err
returns-in-Err c =
    let M = c.args.core.now in
    let q = c.args.call.now in
    let token = option_copied c.args.token in
    let more = ap (λ more. first_fault (rules_on M c.args.t (judged_on names.UpdateBucket more (record (on_account q.account) { bucket = Some q.bucket })) (caller c.asker_of-asker.result) (standing NoBucket (bucket_at M q.bucket)))) c.more_for-more.ensures in
    denied_by M c.args.t token (calls.UpdateBucket q) (update_form M c.args.t token q) (caller c.asker_of-asker.result)
    (plain c.in-Err.kind) c.plain_refusal.result c.asker_of-asker.ensures c.plain_refusal.ensures (c.in-Err.ensures.rules ∙ more)

pub returns-in-Err-buckets_update : goal.returns-in-Err-buckets_update
returns-in-Err-buckets_update c =
    let M = c.args.core.now in
    let q = c.args.call.now in
    let token = option_copied c.args.token in
    let more = ap (λ more. first_fault (rules_on M c.args.t (judged_on names.UpdateBucket more (record (on_account q.account) { bucket = Some q.bucket })) (caller c.asker_of-asker.result) (standing NoBucket (bucket_at M q.bucket)))) c.more_for-more.ensures in
    IfOk-weaker c.not_made.result (λ d. (fault : Fault) × (fault_told bucket_fault c.in-Err-buckets_update.error ≡ Some fault) × (d ≡ decision.Reply (answer.Refused fault))) (IsDecision M c.args.t token (calls.UpdateBucket q))
    (λ d told. refused_by M c.args.t token (calls.UpdateBucket q) (update_form M c.args.t token q) (caller c.asker_of-asker.result)
    told.0 d c.asker_of-asker.ensures told.2 (c.in-Ok.ensures.rules ∙ more)
    (λ copy words. sym told.1 ∙ (c.in-Err-buckets_update.ensures M (caller_of M token).key c.in-Ok.ensures.found).0)) c.not_made.ensures

-- the change that was decided on
pub show_made-requires : goal.show_made-requires
show_made-requires c =
    let M = c.args.core.now in
    let q = c.args.call.now in
    let token = option_copied c.args.token in
    let b = updated_bucket q c.in-Ok.bucket.now in
    let r = c.in-Ok-buckets_update.record in
    let decided = c.in-Ok-buckets_update.ensures M (caller_of M token).key c.in-Ok.ensures.found in
    let change_is = some_is r.change (change.BucketUpdate b) (decided.1.1 ∙ ap (λ o. (or_absent NoBucket (update_plan M (caller_of M token).key q) o).change) c.in-Ok.ensures.found) in
    rw change_is refl

pub returns : goal.returns
returns c =
    let M = c.args.core.now in
    let q = c.args.call.now in
    let token = option_copied c.args.token in
    let more = ap (λ more. first_fault (rules_on M c.args.t (judged_on names.UpdateBucket more (record (on_account q.account) { bucket = Some q.bucket })) (caller c.asker_of-asker.result) (standing NoBucket (bucket_at M q.bucket)))) c.more_for-more.ensures in
    let key = (caller_of M token).key in
    let b = updated_bucket q c.in-Ok.bucket.now in
    let r = c.in-Ok-buckets_update.record in
    let decided = c.in-Ok-buckets_update.ensures M key c.in-Ok.ensures.found in
    let change_is = some_is r.change (change.BucketUpdate b) (decided.1.1 ∙ ap (λ o. (or_absent NoBucket (update_plan M key q) o).change) c.in-Ok.ensures.found) in
    let shown_is = c.in_ok-shown.ensures b (ap bucket_in change_is)
    ∙ ap (λ s. shown_bucket s (option_copied c.asker_of-asker.result.key) b) c.settings.ensures
    ∙ ap (λ w. shown_bucket M.settings w.key b) c.asker_of-asker.ensures in
    let own = (update_plan M key q c.in-Ok.bucket.now).own in
    decided_for M c.args.t token (calls.UpdateBucket q) (update_form M c.args.t token q) (caller c.asker_of-asker.result)
    c.in-Ok.bucket.now r (λ copy words. own) (change.BucketUpdate b) (shown.Bucket c.in_ok-shown.shown)
    c.asker_of-asker.ensures (c.in-Ok.ensures.rules ∙ more) c.in-Ok.ensures.found
    (λ copy words. ap (λ s. writes own (change.BucketUpdate b) (shown.Bucket s)) (sym shown_is))
    (λ copy words. (decided.0, decided.1.1)) decided.1.0
