use Rattle.std.proofs.Common.{◌≡◌, None, option_copied, sym, ap, ◌∙◌}
use Rattle.std.proofs.lemmas.Result.{IfOk-weaker}
use Rattle.b2_model.specs.AskDownloads.{content}
use Rattle.b2_model.specs.Rows.{version_at}
use Rattle.new_versions.specs.Decided.{extent_len}
use Rattle.core_files.specs.Replied.{replied}
use Rattle.core_files.proofs.OnDownloads.{may_miss}
use Rattle.core_files.proofs.downloads.open_by_id.Goals as goal

pub returns-in-Some : goal.returns-in-Some
returns-in-Some c =
    let M = c.args.core.now in
    let q = c.args.call.now in
    let found = ap option_copied (sym c.in-Some.is) ∙ c.version.ensures in
    IfOk-weaker c.serve.result (λ d. d ≡ replied (content extent_len M None q.range c.in-Some.version.now)) (λ d. d ≡ replied (may_miss M None q.range (version_at M q.bucket q.file)))
    (λ d is. is ∙ ap (λ v. replied (may_miss M None q.range v)) found) (c.serve.ensures M (sym c.settings.ensures))
