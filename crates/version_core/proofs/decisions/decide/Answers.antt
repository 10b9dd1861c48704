use Rattle.std.proofs.Common.{sym, subst}
use Rattle.std.specs.Option.{option_copied}
use Rattle.b2_types.specs.declared.call.Call.{Call}
use Rattle.b2_types.specs.declared.call.Call.TheVariants as calls
use Rattle.core_decisions.specs.declared.decision.Decision.TheVariants as decision
use Rattle.version_core.specs.Decided.{IsDecided}
use Rattle.version_core.proofs.Decides.{answered_is, drawn_is, quiet_is}
use Rattle.version_core.proofs.decisions.decide.Goals as goal

pub returns-in_ok-core-in-AuthorizeAccount : goal.returns-in_ok-core-in-AuthorizeAccount
returns-in_ok-core-in-AuthorizeAccount g c =
    let M = c.args.core in
    let ahead = g.W.Words.ahead c.args.luck.now in
    let left = g.W.Words.ahead c.authorize.new.luck in
    let token = option_copied c.args.token in
    let N = c.in_ok-core-in-AuthorizeAccount.core in
    let told = c.in_ok-core-in-AuthorizeAccount.answer in
    subst (λ (q : Call). IsDecided M c.args.t token q ahead left N (decision.Reply told)) (sym c.in-AuthorizeAccount.is)
    (answered_is M c.args.t token (calls.AuthorizeAccount c.in-AuthorizeAccount.call) ahead left N told tt (c.in_ok-core-in-AuthorizeAccount.ensures token))

pub returns-in_ok-core-in-GetUploadUrl : goal.returns-in_ok-core-in-GetUploadUrl
returns-in_ok-core-in-GetUploadUrl g c =
    let M = c.args.core in
    let ahead = g.W.Words.ahead c.args.luck.now in
    let left = g.W.Words.ahead c.get_upload_url.new.luck in
    let token = option_copied c.args.token in
    let N = c.in_ok-core-in-GetUploadUrl.core in
    let told = c.in_ok-core-in-GetUploadUrl.answer in
    subst (λ (q : Call). IsDecided M c.args.t token q ahead left N (decision.Reply told)) (sym c.in-GetUploadUrl.is)
    (answered_is M c.args.t token (calls.GetUploadUrl c.in-GetUploadUrl.call) ahead left N told tt c.in_ok-core-in-GetUploadUrl.ensures)

pub returns-in_ok-core-in-GetUploadPartUrl : goal.returns-in_ok-core-in-GetUploadPartUrl
returns-in_ok-core-in-GetUploadPartUrl g c =
    let M = c.args.core in
    let ahead = g.W.Words.ahead c.args.luck.now in
    let left = g.W.Words.ahead c.get_upload_part_url.new.luck in
    let token = option_copied c.args.token in
    let N = c.in_ok-core-in-GetUploadPartUrl.core in
    let told = c.in_ok-core-in-GetUploadPartUrl.answer in
    subst (λ (q : Call). IsDecided M c.args.t token q ahead left N (decision.Reply told)) (sym c.in-GetUploadPartUrl.is)
    (answered_is M c.args.t token (calls.GetUploadPartUrl c.in-GetUploadPartUrl.call) ahead left N told tt c.in_ok-core-in-GetUploadPartUrl.ensures)

pub returns-in_ok-core-in-GetDownloadAuthorization : goal.returns-in_ok-core-in-GetDownloadAuthorization
returns-in_ok-core-in-GetDownloadAuthorization g c =
    let M = c.args.core in
    let ahead = g.W.Words.ahead c.args.luck.now in
    let left = g.W.Words.ahead c.get_download_authorization.new.luck in
    let token = option_copied c.args.token in
    let N = c.in_ok-core-in-GetDownloadAuthorization.core in
    let told = c.in_ok-core-in-GetDownloadAuthorization.answer in
    subst (λ (q : Call). IsDecided M c.args.t token q ahead left N (decision.Reply told)) (sym c.in-GetDownloadAuthorization.is)
    (answered_is M c.args.t token (calls.GetDownloadAuthorization c.in-GetDownloadAuthorization.call) ahead left N told tt c.in_ok-core-in-GetDownloadAuthorization.ensures)

pub returns-in_ok-decision-in-CreateKey : goal.returns-in_ok-decision-in-CreateKey
returns-in_ok-decision-in-CreateKey g c =
    let M = c.args.core in
    let ahead = g.W.Words.ahead c.args.luck.now in
    let left = g.W.Words.ahead c.create_key.new.luck in
    let token = option_copied c.args.token in
    let N = c.with_moment.result in
    let d = c.in_ok-decision-in-CreateKey.decision in
    subst (λ (q : Call). IsDecided M c.args.t token q ahead left N d) (sym c.in-CreateKey.is)
    (drawn_is M c.args.t token (calls.CreateKey c.in-CreateKey.call) ahead left N d c.with_moment.ensures c.in_ok-decision-in-CreateKey.ensures)

pub returns-in_ok-decision-in_default : goal.returns-in_ok-decision-in_default
returns-in_ok-decision-in_default g c =
    quiet_is c.args.core c.args.t (option_copied c.args.token) c.args.call.now (g.W.Words.ahead c.args.luck.now) c.with_moment-in_default.result c.in_ok-decision-in_default.decision c.with_moment-in_default.ensures c.in_ok-decision-in_default.ensures
