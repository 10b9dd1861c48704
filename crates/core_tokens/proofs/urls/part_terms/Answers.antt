use Rattle.std.proofs.Common.{not, [], ◌∷◌, sym, ap, ◌∙◌}
use Rattle.std.specs.Option.{option_copied}
use Rattle.rule_table.specs.declared.fault.FaultKind.TheVariants.{NotLarge}
use Rattle.b2_types.specs.Fault.{plain}
use Rattle.b2_types.specs.declared.answer.AnswerOf.TheVariants as answer
use Rattle.b2_types.specs.declared.call.Call.TheVariants as calls
use Rattle.b2_types.specs.declared.kinds.TokenKind.TheVariants as kind
use Rattle.b2_model.specs.AskLarge.{not_large}
use Rattle.b2_model.specs.Checks.{check, first_fault}
use Rattle.b2_model.specs.Plan.{key_num, no_serial}
use Rattle.policy_rules.specs.Asked.{caller}
use Rattle.core_decisions.specs.declared.decision.Decision.TheVariants as decision
use Rattle.core_decisions.proofs.Forms.{denied_by, refused_found}
use Rattle.core_tokens.specs.Giving.{day_terms}
use Rattle.core_tokens.specs.ShownTokens.{shows_part}
use Rattle.core_tokens.proofs.Giving.{gives_for}
use Rattle.core_tokens.proofs.TokenForms.{part_form}
use Rattle.core_tokens.proofs.OnTokens.{may_upload_part, part_plan}
use Rattle.core_tokens.proofs.urls.part_terms.Goals as goal

pub returns-in-Err-clause-refused : goal.returns-in-Err-clause-refused
returns-in-Err-clause-refused c =
    let M = c.args.core.now in
    let q = c.args.call.now in
    let token = option_copied c.args.token in
    denied_by M c.args.t token (calls.GetUploadPartUrl q) (part_form M c.args.t token q) (caller c.asker_of-asker.result)
    (plain c.in-Err.kind) (decision.Reply (answer.Refused c.plain.result)) c.asker_of-asker.ensures (ap (λ f. decision.Reply (answer.Refused f)) c.plain.ensures) c.in-Err.ensures.rules

pub returns-then-not-is_start-clause-refused : goal.returns-then-not-is_start-clause-refused
returns-then-not-is_start-clause-refused c =
    let M = c.args.core.now in
    let q = c.args.call.now in
    let token = option_copied c.args.token in
    refused_found M c.args.t token (calls.GetUploadPartUrl q) (part_form M c.args.t token q) (caller c.asker_of-asker.result)
    c.in-Ok.version.now (plain NotLarge) (decision.Reply (answer.Refused c.plain-then-not-is_start.result)) c.asker_of-asker.ensures
    (ap (λ f. decision.Reply (answer.Refused f)) c.plain-then-not-is_start.ensures) c.in-Ok.ensures.rules c.in-Ok.ensures.found
    (λ copy words. sym (ap (λ b. first_fault (check NotLarge (not b) ∷ no_serial M ∷ [])) (sym c.is_start.ensures ∙ c.if-not-is_start.true)))

pub returns-clause-giving : goal.returns-clause-giving
returns-clause-giving c =
    let M = c.args.core.now in
    let q = c.args.call.now in
    let token = option_copied c.args.token in
    let v = c.in-Ok.version.now in
    let key = c.key_num-key.ensures ∙ ap (λ w. key_num w.key) c.asker_of-asker.ensures in
    let terms_are = c.day_terms.ensures ∙ ap (λ k. day_terms c.args.t kind.PartUrl k v.bucket v.num) key in
    gives_for M c.args.t token (calls.GetUploadPartUrl q) (part_form M c.args.t token q) (caller c.asker_of-asker.result) v c.day_terms.result (shows_part M q.bucket q.file) (not_large v ∷ [])
    c.asker_of-asker.ensures c.in-Ok.ensures.rules c.in-Ok.ensures.found (sym (ap (λ b. first_fault (check NotLarge (not b) ∷ [])) (sym c.is_start.ensures ∙ c.if-not-is_start.false)))
    (part_plan M c.args.t token q v c.day_terms.result c.in-Ok.ensures.found terms_are)

pub returns-clause-may : goal.returns-clause-may
returns-clause-may c =
    let M = c.args.core.now in
    let q = c.args.call.now in
    let token = option_copied c.args.token in
    let v = c.in-Ok.version.now in
    let key = c.key_num-key.ensures ∙ ap (λ w. key_num w.key) c.asker_of-asker.ensures in
    let terms_are = c.day_terms.ensures ∙ ap (λ k. day_terms c.args.t kind.PartUrl k v.bucket v.num) key in
    may_upload_part M c.args.t token q v c.day_terms.result c.is_sound.ensures.sound c.in-Ok.ensures.found terms_are
