use Rattle.std.proofs.Common.{◌≡◌, option_copied, sym, ap, ◌∙◌}
use Rattle.std.proofs.lemmas.Result.{IfOk-weaker}
use Rattle.b2_model.specs.AskDownloads.{content}
use Rattle.b2_model.specs.Current.{current}
use Rattle.new_versions.specs.Decided.{extent_len}
use Rattle.core_files.specs.Replied.{replied}
use Rattle.core_files.proofs.OnDownloads.{may_miss}
use Rattle.core_files.proofs.downloads.serve_current.Goals as goal

pub returns-in-Some : goal.returns-in-Some
returns-in-Some c =
    let M = c.args.core.now in
    let q = c.args.call.now in
    let key = option_copied c.args.key in
    let found = ap option_copied (sym c.in-Some.is) ∙ c.in_ok-version.ensures ∙ ap (current M c.args.bucket) (c.as_bytes-name.ensures.value ∙ c.get.ensures.0) in
    IfOk-weaker c.serve.result (λ d. d ≡ replied (content extent_len M key q.range c.in-Some.version.now)) (λ d. d ≡ replied (may_miss M key q.range (current M c.args.bucket q.name)))
    (λ d is. is ∙ ap (λ v. replied (may_miss M key q.range v)) found) (c.serve.ensures M (sym c.settings.ensures))
