use Rattle.std.proofs.Common.{sym, ap, ◌∙◌}
use Rattle.std.specs.Option.{option_copied}
use Rattle.b2_types.specs.Fault.{plain}
use Rattle.b2_types.specs.declared.answer.AnswerOf.TheVariants as answer
use Rattle.b2_types.specs.declared.call.Call.TheVariants as calls
use Rattle.b2_types.specs.declared.record.ChangeOf.TheVariants as change
use Rattle.b2_types.specs.declared.shown.Shown.TheVariants as shown
use Rattle.b2_model.specs.Plan.{writes}
use Rattle.b2_model.specs.Policy.{caller_of}
use Rattle.b2_model.specs.Shown.{shown_bucket}
use Rattle.bucket_state.specs.Refusals.{bucket_fault}
use Rattle.policy_rules.specs.Asked.{caller}
use Rattle.core_decisions.specs.declared.decision.Decision.TheVariants as decision
use Rattle.core_decisions.proofs.Forms.{denied_by, refused_by, decided_for}
use Rattle.core_calls.proofs.OnBuckets.{delete_form, delete_plan, not_not}
use Rattle.core_calls.proofs.buckets.delete_bucket.Goals as goal

pub returns-in-Err : goal.returns-in-Err
returns-in-Err c =
    let M = c.args.core.now in
    let q = c.args.call.now in
    let token = option_copied c.args.token in
    denied_by M c.args.t token (calls.DeleteBucket q) (delete_form M c.args.t token q) (caller c.asker_of-asker.result)
    (plain c.in-Err.kind) c.plain_refusal.result c.asker_of-asker.ensures c.plain_refusal.ensures c.in-Err.ensures.rules

pub returns-in-Err-buckets_remove : goal.returns-in-Err-buckets_remove
returns-in-Err-buckets_remove c =
    let M = c.args.core.now in
    let q = c.args.call.now in
    let token = option_copied c.args.token in
    refused_by M c.args.t token (calls.DeleteBucket q) (delete_form M c.args.t token q) (caller c.asker_of-asker.result)
    (bucket_fault c.in-Err-buckets_remove.refused) c.refusal.result c.asker_of-asker.ensures
    (c.refusal.ensures ∙ ap (λ f. decision.Reply (answer.Refused f)) c.fault_of.ensures) c.in-Ok.ensures.rules
    (λ copy words. (c.in-Err-buckets_remove.ensures M (caller_of M token).key q c.in-Ok.ensures.found (sym c.has_versions-is_empty.ensures ∙ sym (not_not c.has_versions-is_empty.result))).0)

pub returns : goal.returns
returns c =
    let M = c.args.core.now in
    let q = c.args.call.now in
    let token = option_copied c.args.token in
    let key = (caller_of M token).key in
    let b = c.in-Ok.bucket.now in
    let r = c.in-Ok-buckets_remove.record in
    let decided = c.in-Ok-buckets_remove.ensures M key q c.in-Ok.ensures.found (sym c.has_versions-is_empty.ensures ∙ sym (not_not c.has_versions-is_empty.result)) in
    let shown_is = c.in_ok-shown.ensures
    ∙ ap (λ s. shown_bucket s (option_copied c.asker_of-asker.result.key) b) c.settings.ensures
    ∙ ap (λ w. shown_bucket M.settings w.key b) c.asker_of-asker.ensures in
    let own = (delete_plan M key b).own in
    decided_for M c.args.t token (calls.DeleteBucket q) (delete_form M c.args.t token q) (caller c.asker_of-asker.result)
    b r (λ copy words. own) (change.BucketDrop b.num) (shown.Bucket c.in_ok-shown.shown)
    c.asker_of-asker.ensures c.in-Ok.ensures.rules c.in-Ok.ensures.found
    (λ copy words. ap (λ s. writes own (change.BucketDrop b.num) (shown.Bucket s)) (sym shown_is))
    (λ copy words. (decided.0, decided.1.1)) decided.1.0
