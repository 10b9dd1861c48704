use Rattle.std.proofs.Common.{rules, ◌≡◌, refl, ap, ◌∙◌}
use Rattle.b2_types.specs.Fault.{plain}
use Rattle.b2_types.specs.declared.answer.AnswerOf.TheVariants as answer
use Rattle.b2_types.specs.declared.call.Call.TheVariants as calls
use Rattle.b2_types.specs.declared.kinds.TokenKind.TheVariants as kind
use Rattle.b2_model.specs.Policy.{caller_of}
use Rattle.core_decisions.specs.declared.decision.Decision.TheVariants as decision
use Rattle.core_decisions.proofs.Drawn.{denied_first}
use Rattle.core_tokens.specs.Giving.{day_terms}
use Rattle.core_tokens.proofs.OnAccount.{account_rules, gives_account, may_have_account}
use Rattle.core_tokens.proofs.account.account_terms.Goals as goal

pub returns-in-Err-clause-refused : goal.returns-in-Err-clause-refused
returns-in-Err-clause-refused c = λ token.
    let M = c.args.core.now in
    let q = c.args.call.now in
    denied_first M c.args.t token (calls.AuthorizeAccount q) (account_rules M c.args.t token q) (caller_of M token) (plain c.in-Err.kind) (decision.Reply (answer.Refused c.plain.result))
    refl (ap (λ f. decision.Reply (answer.Refused f)) c.plain.ensures) c.in-Err.ensures.rules

pub returns-clause-giving : goal.returns-clause-giving
returns-clause-giving c =
    let M = c.args.core.now in
    let q = c.args.call.now in
    let k = c.in-Ok.key.now in
    let bucket : c.unwrap-bucket.result ≡ 0 = search rules in
    let file : c.unwrap-file.result ≡ 0 = search rules in
    let terms_are = c.day_terms.ensures ∙ ap (λ n. day_terms c.args.t kind.Account k.num n c.unwrap-file.result) bucket ∙ ap (day_terms c.args.t kind.Account k.num 0) file in
    record {
      key = k;
      found = c.in-Ok.ensures.found;
      gives = λ token. gives_account M c.args.t token q k c.day_terms.result c.in-Ok.ensures.found c.in-Ok.ensures.rules terms_are;
    }

pub returns-clause-may : goal.returns-clause-may
returns-clause-may c =
    let k = c.in-Ok.key.now in
    let bucket : c.unwrap-bucket.result ≡ 0 = search rules in
    let file : c.unwrap-file.result ≡ 0 = search rules in
    let terms_are = c.day_terms.ensures ∙ ap (λ n. day_terms c.args.t kind.Account k.num n c.unwrap-file.result) bucket ∙ ap (day_terms c.args.t kind.Account k.num 0) file in
    may_have_account c.args.core.now c.args.t c.args.call.now k c.day_terms.result c.is_sound.ensures.sound c.in-Ok.ensures.found terms_are
