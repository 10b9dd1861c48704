use Rattle.std.proofs.Common.{[], map, refl, sym, ap, ◌∙◌}
use Rattle.std.specs.Option.{option_copied}
use Rattle.b2_types.specs.Fault.{plain}
use Rattle.b2_types.specs.declared.call.Call.TheVariants as calls
use Rattle.b2_types.specs.declared.shown.Shown.TheVariants as shown
use Rattle.b2_model.specs.AskBuckets.{fits_filters}
use Rattle.b2_model.specs.Plan.{shows}
use Rattle.b2_model.specs.Shown.{shown_bucket}
use Rattle.std.specs.Prelude.{filter}
use Rattle.policy_rules.specs.Asked.{caller}
use Rattle.core_decisions.proofs.Forms.{denied_by, shown_for}
use Rattle.core_listings.proofs.OnListings.{buckets_form}
use Rattle.core_listings.proofs.buckets.list_buckets.Goals as goal

pub returns-in-Err : goal.returns-in-Err
returns-in-Err c =
    let M = c.args.core.now in
    let q = c.args.call.now in
    let token = option_copied c.args.token in
    denied_by M c.args.t token (calls.ListBuckets q) (buckets_form M c.args.t token q) (caller c.asker_of-asker.result)
    (plain c.in-Err.kind) c.plain_refusal.result c.asker_of-asker.ensures c.plain_refusal.ensures c.in-Err.ensures

pub returns : goal.returns
returns c =
    let M = c.args.core.now in
    let q = c.args.call.now in
    let token = option_copied c.args.token in
    let shown_is = c.in_ok-shown.ensures
    ∙ ap (λ bs. map (shown_bucket c.settings.result.now (option_copied c.asker_of-asker.result.key)) (map (λ b. b.now) bs)) c.deref.ensures.value
    ∙ ap (map (shown_bucket c.settings.result.now (option_copied c.asker_of-asker.result.key))) (c.in_ok-buckets.ensures ∙ ap (filter (fits_filters q)) c.buckets.ensures)
    ∙ ap (λ s. map (shown_bucket s (option_copied c.asker_of-asker.result.key)) (filter (fits_filters q) M.buckets)) c.settings.ensures
    ∙ ap (λ w. map (shown_bucket M.settings w.key) (filter (fits_filters q) M.buckets)) c.asker_of-asker.ensures in
    shown_for M c.args.t token (calls.ListBuckets q) (buckets_form M c.args.t token q) (caller c.asker_of-asker.result)
    tt [] (shown.Buckets c.in_ok-shown.shown) c.asker_of-asker.ensures c.in_default.ensures refl refl
    (λ copy words. ap (λ bs. shows [] (shown.Buckets bs)) (sym shown_is))
