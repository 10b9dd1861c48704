use Rattle.std.proofs.Common.{◌≡◌, None, ap, ◌∙◌}
use Rattle.std.proofs.lemmas.Result.{IfOk-weaker}
use Rattle.std.specs.Option.{option_copied}
use Rattle.b2_types.specs.Fault.{plain}
use Rattle.b2_types.specs.declared.call.Call.TheVariants as calls
use Rattle.b2_model.specs.Current.{current}
use Rattle.b2_model.specs.Policy.{caller_of}
use Rattle.policy_rules.specs.Asked.{caller}
use Rattle.core_decisions.specs.Decided.{IsDecision}
use Rattle.core_decisions.proofs.Forms.{denied_by}
use Rattle.core_files.specs.Replied.{replied}
use Rattle.core_files.proofs.Answered.{replied_for}
use Rattle.core_files.proofs.OnDownloads.{it_answers, may_miss, name_form, open_name}
use Rattle.core_files.proofs.downloads.download_by_name.Goals as goal

pub returns-in-Some : goal.returns-in-Some
returns-in-Some c =
    let M = c.args.core.now in
    let q = c.args.call.now in
    let token = option_copied c.args.token in
    let b = c.in-Some.bucket.now in
    IfOk-weaker c.serve_current.result (λ d. d ≡ replied (may_miss M None q.range (current M b.num q.name))) (IsDecision M c.args.t token (calls.DownloadFileByName q))
    (λ d is. open_name M c.args.t token q b d c.in-Some.ensures.0 c.in-Some.ensures.1 is) c.serve_current.ensures

pub returns-in-Err : goal.returns-in-Err
returns-in-Err c =
    let M = c.args.core.now in
    let q = c.args.call.now in
    let token = option_copied c.args.token in
    denied_by M c.args.t token (calls.DownloadFileByName q) (name_form M c.args.t token q c.in_default.ensures) (caller c.asker_of-asker.result)
    (plain c.in-Err.kind) c.plain_refusal.result c.asker_of-asker.ensures c.plain_refusal.ensures c.in-Err.ensures.rules

pub returns : goal.returns
returns c =
    let M = c.args.core.now in
    let q = c.args.call.now in
    let token = option_copied c.args.token in
    let b = c.in-Ok.bucket.now in
    let v = current M b.num q.name in
    let p = may_miss M (caller_of M token).key q.range v in
    IfOk-weaker c.serve_current-2.result (λ d. d ≡ replied (may_miss M (option_copied c.asker_of-asker.result.key) q.range v)) (IsDecision M c.args.t token (calls.DownloadFileByName q))
    (λ d is. replied_for M c.args.t token (calls.DownloadFileByName q) (name_form M c.args.t token q c.in_default.ensures) (caller c.asker_of-asker.result)
    b p.own p.answer d c.asker_of-asker.ensures (is ∙ ap (λ w. replied (may_miss M w.key q.range v)) c.asker_of-asker.ensures) c.in-Ok.ensures.rules c.in-Ok.ensures.found
    (λ copy words. it_answers M (caller_of M token).key q.range v))
    c.serve_current-2.ensures
