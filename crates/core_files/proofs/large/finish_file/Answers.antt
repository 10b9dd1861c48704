use Rattle.std.proofs.Common.{sym, ap, ◌∙◌}
use Rattle.std.specs.Option.{option_copied}
use Rattle.b2_types.specs.Fault.{plain}
use Rattle.b2_types.specs.declared.answer.AnswerOf.TheVariants as answer
use Rattle.b2_types.specs.declared.call.Call.TheVariants as calls
use Rattle.b2_types.specs.declared.record.ChangeOf.TheVariants as change
use Rattle.b2_types.specs.declared.shown.Shown.TheVariants as shown
use Rattle.b2_model.specs.AskLarge.{at_finish}
use Rattle.b2_model.specs.Finish.{finished_file}
use Rattle.b2_model.specs.Locks.{own_or_default}
use Rattle.b2_model.specs.Plan.{id_of, writes}
use Rattle.b2_model.specs.Policy.{caller_of}
use Rattle.b2_model.specs.Shown.{shown_file}
use Rattle.new_versions.specs.Decided.{extent_len}
use Rattle.large_files.specs.Refusals.{finish_fault}
use Rattle.policy_rules.specs.Asked.{caller}
use Rattle.core_decisions.specs.declared.decision.Decision.TheVariants as decision
use Rattle.core_decisions.proofs.Forms.{decided_for, denied_by, refused_by}
use Rattle.core_files.proofs.OnLarge.{finish_form, finish_plan}
use Rattle.core_files.proofs.large.finish_file.Goals as goal

pub returns-in-Err : goal.returns-in-Err
returns-in-Err c =
    let M = c.args.core.now in
    let q = c.args.call.now in
    let token = option_copied c.args.token in
    denied_by M c.args.t token (calls.FinishLargeFile q) (finish_form M c.args.t token q) (caller c.asker_of-asker.result)
    (plain c.in-Err.kind) c.plain_refusal.result c.asker_of-asker.ensures c.plain_refusal.ensures c.in-Err.ensures.rules

pub returns-in-Err-finish_large_file : goal.returns-in-Err-finish_large_file
returns-in-Err-finish_large_file c =
    let M = c.args.core.now in
    let q = c.args.call.now in
    let token = option_copied c.args.token in
    let decided = c.in-Err-finish_large_file.ensures M (caller_of M token).key c.in-Ok.ensures.found (ap (λ s. s.part_min) (sym c.settings-settings.ensures)) c.default_of-default.ensures in
    refused_by M c.args.t token (calls.FinishLargeFile q) (finish_form M c.args.t token q) (caller c.asker_of-asker.result)
    (finish_fault c.in-Err-finish_large_file.refused) c.refusal.result c.asker_of-asker.ensures
    (c.refusal.ensures ∙ ap (λ f. decision.Reply (answer.Refused f)) c.fault_of_finish.ensures) c.in-Ok.ensures.rules
    (λ copy words. decided.0)

pub returns : goal.returns
returns c =
    let M = c.args.core.now in
    let q = c.args.call.now in
    let token = option_copied c.args.token in
    let key = (caller_of M token).key in
    let v = c.in-Ok.version.now in
    let r = c.in-Ok-finish_large_file.record in
    let decided = c.in-Ok-finish_large_file.ensures M key c.in-Ok.ensures.found (ap (λ s. s.part_min) (sym c.settings-settings.ensures)) c.default_of-default.ensures in
    let retention = at_finish M c.args.t v in
    let retention_is = c.own_or_default-retention.ensures ∙ ap (own_or_default c.args.t v.retention) (sym c.default_of-default.ensures) in
    let shown_is = c.in_ok-shown.ensures
    ∙ ap (λ s. shown_file extent_len s (option_copied c.asker_of-asker.result.key) (finished_file c.own_or_default-retention.result v)) c.settings-settings.ensures
    ∙ ap (λ w. shown_file extent_len M.settings w.key (finished_file c.own_or_default-retention.result v)) c.asker_of-asker.ensures
    ∙ ap (λ k. shown_file extent_len M.settings key (finished_file k v)) retention_is in
    let own = (finish_plan M key c.args.t q v).own in
    decided_for M c.args.t token (calls.FinishLargeFile q) (finish_form M c.args.t token q) (caller c.asker_of-asker.result)
    v r (λ copy words. own) (change.Finish (id_of v) retention) (shown.File c.in_ok-shown.shown)
    c.asker_of-asker.ensures c.in-Ok.ensures.rules c.in-Ok.ensures.found
    (λ copy words. ap (λ s. writes own (change.Finish (id_of v) retention) (shown.File s)) (sym shown_is))
    (λ copy words. (decided.0, decided.1.1)) decided.1.0
