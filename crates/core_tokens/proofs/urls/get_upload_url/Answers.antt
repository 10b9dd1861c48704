use Rattle.std.proofs.Common.{◌++◌, codes, ap, ◌∙◌}
use Rattle.std.specs.Option.{option_copied}
use Rattle.b2_base.specs.BucketId.{bucket_id}
use Rattle.b2_types.specs.declared.call.Call.TheVariants as calls
use Rattle.b2_types.specs.declared.shown.Shown.TheVariants as shown
use Rattle.core_tokens.specs.ShownTokens.{shows_upload}
use Rattle.core_tokens.proofs.Giving.{given_told, none_told, refused_told}
use Rattle.core_tokens.proofs.urls.get_upload_url.Goals as goal

pub returns-in-Err : goal.returns-in-Err
returns-in-Err g c =
    refused_told c.args.core c.args.t (option_copied c.args.token) (calls.GetUploadUrl c.args.call.now) (g.W.Words.ahead c.args.luck.now)
    c.refused.result.0 c.refused.result.1 c.in-Err.fault c.refused.ensures.state c.refused.ensures.answer c.in-Err.ensures.refused

pub returns-in_default : goal.returns-in_default
returns-in_default g c =
    let M = c.args.core in
    let q = c.args.call.now in
    none_told M c.args.t (option_copied c.args.token) (calls.GetUploadUrl q) c.in-Ok.terms (shows_upload M q.bucket) (g.W.Words.ahead c.args.luck.now) (g.W.Words.ahead c.give_token.new.luck)
    c.in_ok-core.core c.in_ok-core.given c.no_serial.result c.in-Ok.ensures.giving c.in_ok-core.ensures c.in_default.is c.no_serial.ensures

pub returns : goal.returns
returns g c =
    let M = c.args.core in
    let q = c.args.call.now in
    given_told M c.args.t (option_copied c.args.token) (calls.GetUploadUrl q) c.in-Ok.terms (shows_upload M q.bucket) (g.W.Words.ahead c.args.luck.now) (g.W.Words.ahead c.give_token.new.luck)
    c.in_ok-core.core c.in_ok-core.given c.in-Some.text (shown.UploadUrl (record { bucket = q.bucket; token = c.in-Some.text; url = c.in_ok-url.url }))
    c.in-Ok.ensures.giving c.in_ok-core.ensures c.in-Some.is
    (λ state. ap (λ u. shown.UploadUrl (record { bucket = q.bucket; token = c.in-Some.text; url = u }))
    (c.in_ok-url.ensures ∙ ap (λ s. s.url ++ codes "/b2api/v3/b2_upload_file/" ++ bucket_id q.bucket) (c.settings.ensures ∙ ap (λ N. N.settings) state)))
