use Rattle.std.proofs.Common.{◌≡◌, Bor, [], map, min, option_map, unwrap_or, refl, sym, ap, ◌∙◌}
use Rattle.std.proofs.lemmas.Simd.{map-map}
use Rattle.std.specs.Option.{option_copied}
use Rattle.b2_types.specs.KeyId.{key_id}
use Rattle.b2_types.specs.Fault.{plain}
use Rattle.b2_types.specs.declared.call.Call.TheVariants as calls
use Rattle.b2_types.specs.declared.key.Key.{Key}
use Rattle.b2_types.specs.declared.shown.Shown.TheVariants as shown
use Rattle.b2_model.specs.AskKeys.{key_number}
use Rattle.b2_model.specs.Pages.{keys_page}
use Rattle.b2_model.specs.Plan.{number_end}
use Rattle.b2_model.specs.Shown.{shown_key}
use Rattle.app_keys.specs.Pages.{page}
use Rattle.policy_rules.specs.Asked.{caller}
use Rattle.core_decisions.proofs.Forms.{denied_by, shown_for}
use Rattle.core_keys.proofs.KeyPages.{all_by, same_page, shows_page}
use Rattle.core_keys.proofs.OnKeys.{list_form}
use Rattle.core_keys.proofs.keys.list_keys.Goals as goal

pub returns-in-Err : goal.returns-in-Err
returns-in-Err c =
    let M = c.args.core.now in
    let q = c.args.call.now in
    let token = option_copied c.args.token in
    denied_by M c.args.t token (calls.ListKeys q) (list_form M c.args.t token q) (caller c.asker_of-asker.result)
    (plain c.in-Err.kind) c.plain_refusal.result c.asker_of-asker.ensures c.plain_refusal.ensures c.in-Err.ensures

pub keys_page-requires : goal.keys_page-requires
keys_page-requires c = all_by (λ e. e.0 ≡ e.1.num) c.keys.result.now.entries c.keys.ensures.order.under

pub returns : goal.returns
returns c =
    let M = c.args.core.now in
    let q = c.args.call.now in
    let token = option_copied c.args.token in
    let start = c.start_of-start.ensures ∙ ap (λ o. min (unwrap_or (option_map key_number o) 0) number_end) c.as_ref.ensures.value in
    let page_is = c.in_ok-page.ensures M (sym c.keys.ensures.keys) ∙ ap (λ n. keys_page M n q.max) start
    ∙ same_page M (unwrap_or (option_map key_number q.start) 0) q.max c.is_sound.ensures.sound in
    let rows_are = c.in_ok-rows.ensures ∙ ap (map (λ (k : Bor Key). shown_key q.version c.settings.result.now k.now)) c.deref.ensures.value
    ∙ ap (λ s. map (λ (k : Bor Key). shown_key q.version s k.now) c.in_ok-page.page.rows.items) c.settings.ensures
    ∙ sym (map-map (shown_key q.version M.settings) (λ (k : Bor Key). k.now) c.in_ok-page.page.rows.items) in
    let next_is = c.in_ok-next.ensures ∙ ap (λ s. option_map (λ (k : Key). key_id s.account k.num) (option_copied c.in_ok-page.page.next)) c.settings-2.ensures in
    shown_for M c.args.t token (calls.ListKeys q) (list_form M c.args.t token q) (caller c.asker_of-asker.result)
    tt [] (shown.Keys c.in_ok-rows.rows c.in_ok-next.next) c.asker_of-asker.ensures c.in_default.ensures refl refl
    (λ copy words. shows_page M q (page c.in_ok-page.page) c.in_ok-rows.rows c.in_ok-next.next page_is rows_are next_is)
