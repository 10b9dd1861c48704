use Rattle.std.proofs.Common.{[], ◌∷◌, map, sym, ap, ◌∙◌}
use Rattle.std.specs.Option.{option_copied}
use Rattle.b2_types.specs.Fault.{plain}
use Rattle.b2_types.specs.declared.answer.AnswerOf.TheVariants as answer
use Rattle.b2_types.specs.declared.call.Call.TheVariants as calls
use Rattle.b2_types.specs.declared.shown.Shown.TheVariants as shown
use Rattle.b2_model.specs.AskLarge.{not_large}
use Rattle.b2_model.specs.Checks.{first_fault}
use Rattle.b2_model.specs.Plan.{or_absent, shows}
use Rattle.rule_table.specs.declared.fault.FaultKind.TheVariants.{NoFile}
use Rattle.b2_model.specs.Shown.{shown_part}
use Rattle.new_versions.specs.Decided.{extent_len}
use Rattle.large_files.specs.Refusals.{large_fault}
use Rattle.policy_rules.specs.Asked.{caller}
use Rattle.core_decisions.specs.declared.decision.Decision.TheVariants as decision
use Rattle.core_decisions.proofs.Forms.{denied_by, refused_by, shown_for}
use Rattle.core_listings.proofs.OnListings.{parts_ascend, parts_form, parts_plan, shown_parts}
use Rattle.core_listings.proofs.parts.list_parts.Goals as goal

pub returns-in-Err : goal.returns-in-Err
returns-in-Err c =
    let M = c.args.core.now in
    let q = c.args.call.now in
    let token = option_copied c.args.token in
    denied_by M c.args.t token (calls.ListParts q) (parts_form M c.args.t token q) (caller c.asker_of-asker.result)
    (plain c.in-Err.kind) c.plain_refusal.result c.asker_of-asker.ensures c.plain_refusal.ensures c.in-Err.ensures.rules

pub parts_page-requires : goal.parts_page-requires
parts_page-requires c =
    let q = c.args.call.now in
    parts_ascend c.args.core.now q.bucket q.file c.in-Ok.version.now c.is_sound.ensures.sound c.in-Ok.ensures.found

pub returns-in-Err-parts_page : goal.returns-in-Err-parts_page
returns-in-Err-parts_page c =
    let M = c.args.core.now in
    let q = c.args.call.now in
    let token = option_copied c.args.token in
    let refused = c.in-Err-parts_page.refused in
    refused_by M c.args.t token (calls.ListParts q) (parts_form M c.args.t token q) (caller c.asker_of-asker.result)
    (large_fault refused) c.refusal.result c.asker_of-asker.ensures
    (c.refusal.ensures ∙ ap (λ f. decision.Reply (answer.Refused f)) c.not_large_fault.ensures) c.in-Ok.ensures.rules
    (λ copy words. c.in-Err-parts_page.ensures.rules M q c.in-Ok.ensures.found)

pub returns : goal.returns
returns c =
    let M = c.args.core.now in
    let q = c.args.call.now in
    let token = option_copied c.args.token in
    let v = c.in-Ok.version.now in
    let page = c.in-Ok-parts_page.page in
    let shown_is = ap (λ rows. shown.Parts rows c.number_of.result) c.in_ok-rows.ensures
    ∙ ap (λ next. shown.Parts (map (shown_part extent_len v.bucket v.num) page.rows.now) next) c.number_of.ensures
    ∙ ap (shown_parts v) c.in-Ok-parts_page.ensures.page in
    shown_for M c.args.t token (calls.ListParts q) (parts_form M c.args.t token q) (caller c.asker_of-asker.result)
    v (not_large v ∷ []) (shown.Parts c.in_ok-rows.rows c.number_of.result) c.asker_of-asker.ensures c.in-Ok.ensures.rules c.in-Ok.ensures.found
    (c.in-Ok-parts_page.ensures.rules M q c.in-Ok.ensures.found ∙ ap (λ o. first_fault (or_absent NoFile (parts_plan q) o).own) c.in-Ok.ensures.found)
    (λ copy words. ap (shows (not_large v ∷ [])) (sym shown_is))
