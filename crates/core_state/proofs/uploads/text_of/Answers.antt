use Rattle.std.proofs.Common.{◌≡◌, option_copied, sym, ap, ◌∙◌}
use Rattle.std.proofs.lemmas.Result.{IfOk-weaker}
use Rattle.core_state.proofs.UnderWay.{text_is}
use Rattle.core_state.proofs.uploads.text_of.Goals as goal

pub returns : goal.returns
returns c =
    IfOk-weaker c.copy.result (λ text. text ≡ c.get.result.now) (λ text. text ≡ c.args.token.now)
    (λ text is. is ∙ c.get.ensures ∙ text_is c.args.core.now c.args.token.now c.in-Some.grant.now (ap option_copied (sym c.in-Some.is) ∙ c.grant.ensures)) c.copy.ensures
