use Rattle.std.proofs.Common.{[], refl, sym, ap, ◌∙◌}
use Rattle.std.specs.Option.{option_copied}
use Rattle.b2_types.specs.Fault.{plain}
use Rattle.b2_types.specs.declared.call.Call.TheVariants as calls
use Rattle.b2_types.specs.declared.shown.Shown.TheVariants as shown
use Rattle.b2_model.specs.Plan.{shows}
use Rattle.b2_model.specs.Shown.{shown_file}
use Rattle.new_versions.specs.Decided.{extent_len}
use Rattle.policy_rules.specs.Asked.{caller}
use Rattle.core_decisions.proofs.Forms.{denied_by, shown_for}
use Rattle.core_calls.proofs.OnFiles.{info_form}
use Rattle.core_calls.proofs.files.file_info.Goals as goal

pub returns-in-Err : goal.returns-in-Err
returns-in-Err c =
    let M = c.args.core.now in
    let token = option_copied c.args.token in
    denied_by M c.args.t token (calls.GetFileInfo c.args.call.now) (info_form M c.args.t token c.args.call.now) (caller c.asker_of-asker.result)
    (plain c.in-Err.kind) c.plain_refusal.result c.asker_of-asker.ensures c.plain_refusal.ensures c.in-Err.ensures.rules

pub returns : goal.returns
returns c =
    let M = c.args.core.now in
    let v = c.in-Ok.version.now in
    let token = option_copied c.args.token in
    let shown_is = c.in_ok-shown.ensures
    ∙ ap (λ s. shown_file extent_len s (option_copied c.asker_of-asker.result.key) v) c.settings.ensures
    ∙ ap (λ w. shown_file extent_len M.settings w.key v) c.asker_of-asker.ensures in
    shown_for M c.args.t token (calls.GetFileInfo c.args.call.now) (info_form M c.args.t token c.args.call.now) (caller c.asker_of-asker.result)
    v [] (shown.File c.in_ok-shown.shown) c.asker_of-asker.ensures c.in-Ok.ensures.rules c.in-Ok.ensures.found refl
    (λ copy words. ap (λ f. shows [] (shown.File f)) (sym shown_is))
