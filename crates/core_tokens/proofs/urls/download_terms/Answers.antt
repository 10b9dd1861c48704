use Rattle.std.proofs.Common.{rules, ◌≡◌, ℕ, List, [], refl, ap, ◌∙◌}
use Rattle.std.specs.Option.{option_copied}
use Rattle.b2_types.specs.Fault.{plain}
use Rattle.b2_types.specs.declared.answer.AnswerOf.TheVariants as answer
use Rattle.b2_types.specs.declared.call.Call.TheVariants as calls
use Rattle.b2_types.specs.declared.kinds.TokenKind.TheVariants as kind
use Rattle.b2_model.specs.Plan.{key_num}
use Rattle.auth_grants.specs.declared.grants.Terms.{Terms}
use Rattle.policy_rules.specs.Asked.{caller}
use Rattle.core_decisions.specs.declared.decision.Decision.TheVariants as decision
use Rattle.core_decisions.proofs.Forms.{denied_by}
use Rattle.core_tokens.specs.ShownTokens.{shows_download}
use Rattle.core_tokens.proofs.Giving.{gives_for}
use Rattle.core_tokens.proofs.TokenForms.{download_form}
use Rattle.core_tokens.proofs.OnTokens.{asking, download_plan, may_download}
use Rattle.core_tokens.proofs.urls.download_terms.Goals as goal

abbrev terms : ℕ → ℕ → ℕ → List ℕ → ℕ → Terms
terms key bucket file prefix end = record { kind = kind.Download; key = key; bucket = bucket; file = file; prefix = prefix; end = end }

pub returns-in-Err-clause-refused : goal.returns-in-Err-clause-refused
returns-in-Err-clause-refused c =
    let M = c.args.core.now in
    let q = c.args.call.now in
    let token = option_copied c.args.token in
    denied_by M c.args.t token (calls.GetDownloadAuthorization q) (download_form M c.args.t token q) (caller c.asker_of-asker.result)
    (plain c.in-Err.kind) (decision.Reply (answer.Refused c.plain.result)) c.asker_of-asker.ensures (ap (λ f. decision.Reply (answer.Refused f)) c.plain.ensures) c.in-Err.ensures.rules

pub returns-clause-giving : goal.returns-clause-giving
returns-clause-giving c =
    let M = c.args.core.now in
    let q = c.args.call.now in
    let token = option_copied c.args.token in
    let b = c.in_default.field-0.now in
    let none : c.unwrap.result ≡ 0 = search rules in
    let key = c.key_num.ensures ∙ ap (λ w. key_num w.key) c.asker_of-asker.ensures in
    let terms_are = ap (λ k. terms k q.bucket c.unwrap.result c.args.prefix c.end_of.result) key
    ∙ ap (λ n. terms (asking M token) q.bucket n c.args.prefix c.end_of.result) none
    ∙ ap (λ p. terms (asking M token) q.bucket 0 p c.end_of.result) c.requires
    ∙ ap (terms (asking M token) q.bucket 0 q.prefix) c.end_of.ensures in
    gives_for M c.args.t token (calls.GetDownloadAuthorization q) (download_form M c.args.t token q) (caller c.asker_of-asker.result) b
    (terms c.key_num.result q.bucket c.unwrap.result c.args.prefix c.end_of.result) (shows_download q.bucket q.prefix) []
    c.asker_of-asker.ensures c.in_default.ensures.rules c.in_default.ensures.found refl
    (download_plan M c.args.t token q b (terms c.key_num.result q.bucket c.unwrap.result c.args.prefix c.end_of.result) c.in_default.ensures.found terms_are)

pub returns-clause-may : goal.returns-clause-may
returns-clause-may c =
    let M = c.args.core.now in
    let q = c.args.call.now in
    let token = option_copied c.args.token in
    let none : c.unwrap.result ≡ 0 = search rules in
    let key = c.key_num.ensures ∙ ap (λ w. key_num w.key) c.asker_of-asker.ensures in
    let terms_are = ap (λ k. terms k q.bucket c.unwrap.result c.args.prefix c.end_of.result) key
    ∙ ap (λ n. terms (asking M token) q.bucket n c.args.prefix c.end_of.result) none
    ∙ ap (λ p. terms (asking M token) q.bucket 0 p c.end_of.result) c.requires
    ∙ ap (terms (asking M token) q.bucket 0 q.prefix) c.end_of.ensures in
    may_download M c.args.t token q c.in_default.field-0.now (terms c.key_num.result q.bucket c.unwrap.result c.args.prefix c.end_of.result) c.is_sound.ensures.sound c.in_default.ensures.found terms_are
