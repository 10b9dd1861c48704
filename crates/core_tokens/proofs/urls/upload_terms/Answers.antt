use Rattle.std.proofs.Common.{rules, ◌≡◌, [], refl, ap, ◌∙◌}
use Rattle.std.specs.Option.{option_copied}
use Rattle.b2_types.specs.Fault.{plain}
use Rattle.b2_types.specs.declared.answer.AnswerOf.TheVariants as answer
use Rattle.b2_types.specs.declared.call.Call.TheVariants as calls
use Rattle.b2_types.specs.declared.kinds.TokenKind.TheVariants as kind
use Rattle.b2_model.specs.Plan.{key_num}
use Rattle.policy_rules.specs.Asked.{caller}
use Rattle.core_decisions.specs.declared.decision.Decision.TheVariants as decision
use Rattle.core_decisions.proofs.Forms.{denied_by}
use Rattle.core_tokens.specs.Giving.{day_terms}
use Rattle.core_tokens.specs.ShownTokens.{shows_upload}
use Rattle.core_tokens.proofs.Giving.{gives_for}
use Rattle.core_tokens.proofs.TokenForms.{upload_form}
use Rattle.core_tokens.proofs.OnTokens.{asking, may_upload, upload_plan}
use Rattle.core_tokens.proofs.urls.upload_terms.Goals as goal

pub returns-in-Err-clause-refused : goal.returns-in-Err-clause-refused
returns-in-Err-clause-refused c =
    let M = c.args.core.now in
    let q = c.args.call.now in
    let token = option_copied c.args.token in
    denied_by M c.args.t token (calls.GetUploadUrl q) (upload_form M c.args.t token q) (caller c.asker_of-asker.result)
    (plain c.in-Err.kind) (decision.Reply (answer.Refused c.plain.result)) c.asker_of-asker.ensures (ap (λ f. decision.Reply (answer.Refused f)) c.plain.ensures) c.in-Err.ensures.rules

pub returns-clause-giving : goal.returns-clause-giving
returns-clause-giving c =
    let M = c.args.core.now in
    let q = c.args.call.now in
    let token = option_copied c.args.token in
    let b = c.in-Ok.bucket.now in
    let none : c.unwrap-file.result ≡ 0 = search rules in
    let key = c.key_num-key.ensures ∙ ap (λ w. key_num w.key) c.asker_of-asker.ensures in
    let terms_are = c.day_terms.ensures ∙ ap (λ k. day_terms c.args.t kind.UploadUrl k b.num c.unwrap-file.result) key ∙ ap (day_terms c.args.t kind.UploadUrl (asking M token) b.num) none in
    gives_for M c.args.t token (calls.GetUploadUrl q) (upload_form M c.args.t token q) (caller c.asker_of-asker.result) b c.day_terms.result (shows_upload M q.bucket) []
    c.asker_of-asker.ensures c.in-Ok.ensures.rules c.in-Ok.ensures.found refl (upload_plan M c.args.t token q b c.day_terms.result c.in-Ok.ensures.found terms_are)

pub returns-clause-may : goal.returns-clause-may
returns-clause-may c =
    let M = c.args.core.now in
    let q = c.args.call.now in
    let token = option_copied c.args.token in
    let b = c.in-Ok.bucket.now in
    let none : c.unwrap-file.result ≡ 0 = search rules in
    let key = c.key_num-key.ensures ∙ ap (λ w. key_num w.key) c.asker_of-asker.ensures in
    let terms_are = c.day_terms.ensures ∙ ap (λ k. day_terms c.args.t kind.UploadUrl k b.num c.unwrap-file.result) key ∙ ap (day_terms c.args.t kind.UploadUrl (asking M token) b.num) none in
    may_upload M c.args.t token q b c.day_terms.result c.is_sound.ensures.sound c.in-Ok.ensures.found terms_are
