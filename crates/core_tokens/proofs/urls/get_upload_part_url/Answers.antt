use Rattle.std.proofs.Common.{◌++◌, codes, ap, ◌∙◌}
use Rattle.std.specs.Option.{option_copied}
use Rattle.b2_base.specs.FileId.{file_id}
use Rattle.b2_types.specs.declared.call.Call.TheVariants as calls
use Rattle.b2_types.specs.declared.shown.Shown.TheVariants as shown
use Rattle.core_tokens.specs.ShownTokens.{shows_part}
use Rattle.core_tokens.proofs.Giving.{given_told, none_told, refused_told}
use Rattle.core_tokens.proofs.urls.get_upload_part_url.Goals as goal

pub returns-in-Err : goal.returns-in-Err
returns-in-Err g c =
    refused_told c.args.core c.args.t (option_copied c.args.token) (calls.GetUploadPartUrl c.args.call.now) (g.W.Words.ahead c.args.luck.now)
    c.refused.result.0 c.refused.result.1 c.in-Err.fault c.refused.ensures.state c.refused.ensures.answer c.in-Err.ensures.refused

pub returns-in_default : goal.returns-in_default
returns-in_default g c =
    let M = c.args.core in
    let q = c.args.call.now in
    none_told M c.args.t (option_copied c.args.token) (calls.GetUploadPartUrl q) c.in-Ok.terms (shows_part M q.bucket q.file) (g.W.Words.ahead c.args.luck.now) (g.W.Words.ahead c.give_token.new.luck)
    c.in_ok-core.core c.in_ok-core.given c.no_serial.result c.in-Ok.ensures.giving c.in_ok-core.ensures c.in_default.is c.no_serial.ensures

pub returns : goal.returns
returns g c =
    let M = c.args.core in
    let q = c.args.call.now in
    given_told M c.args.t (option_copied c.args.token) (calls.GetUploadPartUrl q) c.in-Ok.terms (shows_part M q.bucket q.file) (g.W.Words.ahead c.args.luck.now) (g.W.Words.ahead c.give_token.new.luck)
    c.in_ok-core.core c.in_ok-core.given c.in-Some.text (shown.PartUrl (record { file = record { bucket = q.bucket; num = q.file }; token = c.in-Some.text; url = c.in_ok-url.url }))
    c.in-Ok.ensures.giving c.in_ok-core.ensures c.in-Some.is
    (λ state. ap (λ u. shown.PartUrl (record { file = record { bucket = q.bucket; num = q.file }; token = c.in-Some.text; url = u }))
    (c.in_ok-url.ensures ∙ ap (λ s. s.url ++ codes "/b2api/v3/b2_upload_part/" ++ file_id q.bucket q.file) (c.settings.ensures ∙ ap (λ N. N.settings) state)))
