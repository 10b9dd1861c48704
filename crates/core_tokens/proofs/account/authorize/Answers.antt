use Rattle.std.proofs.Common.{option_and_then, ap, ◌∙◌}
use Rattle.b2_types.specs.declared.call.Call.TheVariants as calls
use Rattle.b2_types.specs.declared.shown.Shown.TheVariants as shown
use Rattle.b2_model.specs.Policy.{key_by}
use Rattle.b2_model.specs.Shown.{shown_account}
use Rattle.core_tokens.proofs.Giving.{given_told, none_told, refused_told}
use Rattle.core_tokens.proofs.account.authorize.Goals as goal

pub returns-in-Err : goal.returns-in-Err
returns-in-Err g c = λ token.
    refused_told c.args.core c.args.t token (calls.AuthorizeAccount c.args.call.now) (g.W.Words.ahead c.args.luck.now)
    c.refused.result.0 c.refused.result.1 c.in-Err.fault c.refused.ensures.state c.refused.ensures.answer (c.in-Err.ensures.refused token)

pub returns-in_default : goal.returns-in_default
returns-in_default g c = λ token.
    let M = c.args.core in
    let q = c.args.call.now in
    let gives = c.in-Ok.ensures.giving in
    none_told M c.args.t token (calls.AuthorizeAccount q) c.in-Ok.terms (λ text. shown.Account (shown_account q.version M gives.key text)) (g.W.Words.ahead c.args.luck.now) (g.W.Words.ahead c.give_token.new.luck)
    c.in_ok-core.core c.in_ok-core.given c.no_serial.result (gives.gives token) c.in_ok-core.ensures c.in_default.is c.no_serial.ensures

pub returns : goal.returns
returns g c = λ token.
    let M = c.args.core in
    let q = c.args.call.now in
    let N = c.in_ok-core.core in
    let text = c.in-Some.text in
    let gives = c.in-Ok.ensures.giving in
    given_told M c.args.t token (calls.AuthorizeAccount q) c.in-Ok.terms (λ text. shown.Account (shown_account q.version M gives.key text)) (g.W.Words.ahead c.args.luck.now) (g.W.Words.ahead c.give_token.new.luck)
    N c.in_ok-core.given text (shown.Account c.in_ok-account.account) (gives.gives token) c.in_ok-core.ensures c.in-Some.is
    (λ state. ap shown.Account
    (c.in_ok-account.ensures gives.key (ap (λ K. option_and_then (key_by K) q.credentials) state ∙ gives.found) ∙ ap (λ K. shown_account q.version K gives.key text) state))
