use Rattle.std.proofs.Common.{◌≡◌, Some, refl, sym, ap, ◌∙◌}
use Rattle.std.proofs.lemmas.Result.{IfOk-weaker}
use Rattle.std.specs.Option.{option_copied}
use Rattle.b2_types.specs.Fault.{plain}
use Rattle.b2_types.specs.declared.fault.Fault.{Fault}
use Rattle.b2_types.specs.declared.answer.AnswerOf.TheVariants as answer
use Rattle.b2_types.specs.declared.call.Call.TheVariants as calls
use Rattle.b2_types.specs.declared.record.ChangeOf.TheVariants as change
use Rattle.b2_types.specs.declared.shown.Shown.TheVariants as shown
use Rattle.b2_model.specs.Plan.{writes}
use Rattle.b2_model.specs.Policy.{caller_of}
use Rattle.b2_model.specs.Shown.{shown_bucket}
use Rattle.new_versions.specs.Decided.{fault_told}
use Rattle.bucket_state.specs.Refusals.{bucket_fault}
use Rattle.policy_rules.specs.Asked.{caller}
use Rattle.core_calls.specs.Buckets.{bucket_in}
use Rattle.core_decisions.specs.Decided.{IsDecision}
use Rattle.core_decisions.specs.declared.decision.Decision.TheVariants as decision
use Rattle.core_decisions.proofs.Forms.{denied_by, refused_by, decided_for, some_is}
use Rattle.b2_model.specs.AskBuckets.{create_bucket, new_bucket}
use Rattle.core_calls.proofs.OnBuckets.{create_form}
use Rattle.core_calls.proofs.buckets.create_bucket.Goals as goal

pub returns-in-Err : goal.returns-in-Err
returns-in-Err c =
    let M = c.args.core.now in
    let q = c.args.call.now in
    let token = option_copied c.args.token in
    denied_by M c.args.t token (calls.CreateBucket q) (create_form M c.args.t token q) (caller c.asker_of-asker.result)
    (plain c.in-Err.kind) c.plain_refusal.result c.asker_of-asker.ensures c.plain_refusal.ensures c.in-Err.ensures

pub returns-in-Err-buckets_create : goal.returns-in-Err-buckets_create
returns-in-Err-buckets_create c =
    let M = c.args.core.now in
    let q = c.args.call.now in
    let token = option_copied c.args.token in
    IfOk-weaker c.not_made.result (λ d. (fault : Fault) × (fault_told bucket_fault c.in-Err-buckets_create.error ≡ Some fault) × (d ≡ decision.Reply (answer.Refused fault))) (IsDecision M c.args.t token (calls.CreateBucket q))
    (λ d told. refused_by M c.args.t token (calls.CreateBucket q) (create_form M c.args.t token q) (caller c.asker_of-asker.result)
    told.0 d c.asker_of-asker.ensures told.2 c.in_default.ensures
    (λ copy words. sym told.1 ∙ (c.in-Err-buckets_create.ensures M (caller_of M token).key (sym c.buckets.ensures) (sym c.next_bucket.ensures)).0)) c.not_made.ensures

pub show_made-requires : goal.show_made-requires
show_made-requires c =
    let M = c.args.core.now in
    let q = c.args.call.now in
    let token = option_copied c.args.token in
    let decided = c.in-Ok.ensures M (caller_of M token).key (sym c.buckets.ensures) (sym c.next_bucket.ensures) in
    let change_is = some_is c.in-Ok.record.change (change.BucketMake (new_bucket M q)) decided.1.1 in
    rw change_is refl

pub returns : goal.returns
returns c =
    let M = c.args.core.now in
    let q = c.args.call.now in
    let token = option_copied c.args.token in
    let key = (caller_of M token).key in
    let r = c.in-Ok.record in
    let decided = c.in-Ok.ensures M key (sym c.buckets.ensures) (sym c.next_bucket.ensures) in
    let change_is = some_is r.change (change.BucketMake (new_bucket M q)) decided.1.1 in
    let shown_is = c.in_ok-shown.ensures (new_bucket M q) (ap bucket_in change_is)
    ∙ ap (λ s. shown_bucket s (option_copied c.asker_of-asker.result.key) (new_bucket M q)) c.settings.ensures
    ∙ ap (λ w. shown_bucket M.settings w.key (new_bucket M q)) c.asker_of-asker.ensures in
    let own = (create_bucket M key q).own in
    decided_for M c.args.t token (calls.CreateBucket q) (create_form M c.args.t token q) (caller c.asker_of-asker.result)
    tt r (λ copy words. own) (change.BucketMake (new_bucket M q)) (shown.Bucket c.in_ok-shown.shown)
    c.asker_of-asker.ensures c.in_default.ensures refl
    (λ copy words. ap (λ s. writes own (change.BucketMake (new_bucket M q)) (shown.Bucket s)) (sym shown_is))
    (λ copy words. (decided.0, decided.1.1)) decided.1.0
