use Rattle.std.proofs.Common.{[], ◌∷◌, sym, ap, ◌∙◌}
use Rattle.std.specs.Option.{option_copied}
use Rattle.b2_types.specs.Fault.{plain}
use Rattle.b2_types.specs.declared.answer.AnswerOf.TheVariants as answer
use Rattle.b2_types.specs.declared.call.Call.TheVariants as calls
use Rattle.b2_types.specs.declared.record.ChangeOf.TheVariants as change
use Rattle.b2_types.specs.declared.shown.Shown.TheVariants as shown
use Rattle.b2_model.specs.Shown.{shown_name}
use Rattle.b2_model.specs.AskLarge.{not_large}
use Rattle.b2_model.specs.Plan.{id_of, writes}
use Rattle.large_files.specs.Refusals.{large_fault}
use Rattle.policy_rules.specs.Asked.{caller}
use Rattle.core_decisions.specs.declared.decision.Decision.TheVariants as decision
use Rattle.core_decisions.proofs.Forms.{denied_by, refused_by, decided_for}
use Rattle.core_calls.proofs.OnFiles.{cancel_form}
use Rattle.core_calls.proofs.files.cancel_file.Goals as goal

pub returns-in-Err : goal.returns-in-Err
returns-in-Err c =
    let M = c.args.core.now in
    let token = option_copied c.args.token in
    denied_by M c.args.t token (calls.CancelLargeFile c.args.call.now) (cancel_form M c.args.t token c.args.call.now) (caller c.asker_of-asker.result)
    (plain c.in-Err.kind) c.plain_refusal.result c.asker_of-asker.ensures c.plain_refusal.ensures c.in-Err.ensures.rules

pub returns-in-Err-cancel_large_file : goal.returns-in-Err-cancel_large_file
returns-in-Err-cancel_large_file c =
    let M = c.args.core.now in
    let token = option_copied c.args.token in
    let refused = c.in-Err-cancel_large_file.refused in
    refused_by M c.args.t token (calls.CancelLargeFile c.args.call.now) (cancel_form M c.args.t token c.args.call.now) (caller c.asker_of-asker.result)
    (large_fault refused) c.refusal.result c.asker_of-asker.ensures
    (c.refusal.ensures ∙ ap (λ f. decision.Reply (answer.Refused f)) c.not_large_fault.ensures) c.in-Ok.ensures.rules
    (λ copy words. (c.in-Err-cancel_large_file.ensures M c.args.call.now c.in-Ok.ensures.found).0)

pub returns : goal.returns
returns c =
    let M = c.args.core.now in
    let v = c.in-Ok.version.now in
    let token = option_copied c.args.token in
    let r = c.in-Ok-cancel_large_file.record in
    let decided = c.in-Ok-cancel_large_file.ensures M c.args.call.now c.in-Ok.ensures.found in
    let own = not_large v ∷ [] in
    let account = c.in_ok-account.ensures ∙ c.get.ensures ∙ ap (λ s. s.account) c.settings.ensures in
    decided_for M c.args.t token (calls.CancelLargeFile c.args.call.now) (cancel_form M c.args.t token c.args.call.now) (caller c.asker_of-asker.result)
    v r (λ copy words. own) (change.Cancel (id_of v)) (shown.Cancelled (record { account = c.in_ok-account.account; file = c.in_ok-file.file }))
    c.asker_of-asker.ensures c.in-Ok.ensures.rules c.in-Ok.ensures.found
    (λ copy words.
    ap (λ a. writes own (change.Cancel (id_of v)) (shown.Cancelled (record { account = a; file = shown_name v }))) (sym account)
    ∙ ap (λ f. writes own (change.Cancel (id_of v)) (shown.Cancelled (record { account = c.in_ok-account.account; file = f }))) (sym c.in_ok-file.ensures))
    (λ copy words. (decided.0, decided.1.1)) decided.1.0
