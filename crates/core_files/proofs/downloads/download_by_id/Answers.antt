use Rattle.std.proofs.Common.{◌≡◌, None, refl, sym, ap, ◌∙◌}
use Rattle.std.proofs.lemmas.Result.{IfOk-weaker}
use Rattle.std.specs.Option.{option_copied}
use Rattle.b2_types.specs.Fault.{plain}
use Rattle.b2_types.specs.declared.call.Call.TheVariants as calls
use Rattle.b2_model.specs.AskDownloads.{content}
use Rattle.b2_model.specs.Checks.{some_and}
use Rattle.b2_model.specs.Policy.{caller_of}
use Rattle.b2_model.specs.Rows.{version_at}
use Rattle.new_versions.specs.Decided.{extent_len}
use Rattle.policy_rules.specs.Asked.{caller}
use Rattle.core_decisions.specs.Decided.{IsDecision}
use Rattle.core_decisions.proofs.Forms.{denied_by}
use Rattle.core_files.specs.Replied.{replied}
use Rattle.core_files.proofs.Answered.{replied_for}
use Rattle.core_files.proofs.OnDownloads.{id_form, may_miss, open_id}
use Rattle.core_files.proofs.downloads.download_by_id.Goals as goal

pub returns-then-is_public : goal.returns-then-is_public
returns-then-is_public c =
    let M = c.args.core.now in
    let q = c.args.call.now in
    let token = option_copied c.args.token in
    let public = ap (some_and (λ b. b.public)) (sym c.bucket.ensures) ∙ sym c.is_public.ensures ∙ c.if-is_public.true in
    IfOk-weaker c.open_by_id.result (λ d. d ≡ replied (may_miss M None q.range (version_at M q.bucket q.file))) (IsDecision M c.args.t token (calls.DownloadFileById q))
    (λ d is. open_id M c.args.t token q d public is) c.open_by_id.ensures

pub returns-in-Err : goal.returns-in-Err
returns-in-Err c =
    let M = c.args.core.now in
    let q = c.args.call.now in
    let token = option_copied c.args.token in
    let closed = ap (some_and (λ b. b.public)) (sym c.bucket.ensures) ∙ sym c.is_public.ensures ∙ c.if-is_public.false in
    denied_by M c.args.t token (calls.DownloadFileById q) (id_form M c.args.t token q closed) (caller c.asker_of-asker.result)
    (plain c.in-Err.kind) c.plain_refusal.result c.asker_of-asker.ensures c.plain_refusal.ensures c.in-Err.ensures.rules

pub returns : goal.returns
returns c =
    let M = c.args.core.now in
    let q = c.args.call.now in
    let token = option_copied c.args.token in
    let v = c.in-Ok.version.now in
    let closed = ap (some_and (λ b. b.public)) (sym c.bucket.ensures) ∙ sym c.is_public.ensures ∙ c.if-is_public.false in
    let p = content extent_len M (caller_of M token).key q.range v in
    IfOk-weaker c.serve.result (λ d. d ≡ replied (content extent_len M (option_copied c.asker_of-asker.result.key) q.range v)) (IsDecision M c.args.t token (calls.DownloadFileById q))
    (λ d is. replied_for M c.args.t token (calls.DownloadFileById q) (id_form M c.args.t token q closed) (caller c.asker_of-asker.result)
    v p.own p.answer d c.asker_of-asker.ensures (is ∙ ap (λ w. replied (content extent_len M w.key q.range v)) c.asker_of-asker.ensures) c.in-Ok.ensures.rules c.in-Ok.ensures.found (λ copy words. refl))
    (c.serve.ensures M (sym c.settings.ensures))
