use Rattle.std.proofs.Common.{[], refl, sym, ap, ◌∙◌}
use Rattle.std.specs.Option.{option_copied}
use Rattle.rule_table.specs.declared.call.CallName.TheVariants as names
use Rattle.b2_types.specs.Fault.{plain}
use Rattle.b2_types.specs.declared.call.Call.TheVariants as calls
use Rattle.b2_model.specs.Plan.{shows}
use Rattle.policy_rules.specs.Asked.{caller}
use Rattle.core_decisions.proofs.Forms.{denied_by, shown_for}
use Rattle.core_listings.specs.Rows.{starts_shown}
use Rattle.core_listings.proofs.OnListings.{asked_page, prefix_fault, starts_form}
use Rattle.core_listings.proofs.files.list_unfinished_large_files.Goals as goal

pub returns-in-Err : goal.returns-in-Err
returns-in-Err c =
    let M = c.args.core.now in
    let q = c.args.call.now in
    let token = option_copied c.args.token in
    let prefix = ap (prefix_fault M c.args.t names.ListUnfinishedLargeFiles (caller c.asker_of-asker.result) q.bucket) c.as_ref.ensures.value in
    denied_by M c.args.t token (calls.ListUnfinishedLargeFiles q) (starts_form M c.args.t token q) (caller c.asker_of-asker.result)
    (plain c.in-Err.kind) c.plain_refusal.result c.asker_of-asker.ensures c.plain_refusal.ensures (c.in-Err.ensures.rules ∙ prefix)

pub returns : goal.returns
returns c =
    let M = c.args.core.now in
    let q = c.args.call.now in
    let b = c.in-Ok.bucket.now in
    let token = option_copied c.args.token in
    let prefix = ap (prefix_fault M c.args.t names.ListUnfinishedLargeFiles (caller c.asker_of-asker.result) q.bucket) c.as_ref.ensures.value in
    let shown_is = c.in_ok-shown.ensures ∙ ap (λ w. starts_shown M w.key (asked_page M q b.num)) c.asker_of-asker.ensures in
    shown_for M c.args.t token (calls.ListUnfinishedLargeFiles q) (starts_form M c.args.t token q) (caller c.asker_of-asker.result)
    b [] c.in_ok-shown.shown c.asker_of-asker.ensures (c.in-Ok.ensures.rules ∙ prefix) c.in-Ok.ensures.found refl
    (λ copy words. ap (shows []) (sym shown_is))
