use Rattle.std.proofs.Common.{subst, sym}
use Rattle.request_calls.specs.Asked.{IsTokenOf, IsAskedOf}
use Rattle.request_calls.proofs.Others.{IsOther, token_of_other, call_of_other}
use Rattle.request_calls.proofs.asked.read_asked.Goals as goal

pub returns-in_ok-call-in_default : goal.returns-in_ok-call-in_default
returns-in_ok-call-in_default c =
    let d = c.in_default in
    let route = c.args.route.now in
    let request = c.args.request.now in
    let body = c.args.body.now in
    let other : IsOther route.name = record {
      authorize = d.not-AuthorizeAccount;
      file = d.not-UploadFile;
      part = d.not-UploadPart;
      by_id = d.not-DownloadFileById;
      by_name = d.not-DownloadFileByName;
    } in
    let made = c.with_call-in_default.ensures in (
      subst (IsTokenOf route.name request) (sym made.0) (token_of_other route.name request c.in_ok-token-in_default.token other c.in_ok-token-in_default.ensures),
      subst (IsAskedOf route request body) (sym made.1) (call_of_other route.name route.version request body c.in_ok-call-in_default.call other c.in_ok-call-in_default.ensures),
    )
