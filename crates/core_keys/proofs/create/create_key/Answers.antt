use Rattle.std.proofs.Common.{◌≡◌, ℕ, List, [], Some, map, refl, sym, ap, ◌∙◌}
use Rattle.std.proofs.lemmas.Result.{IfOk-weaker}
use Rattle.std.specs.Option.{option_copied}
use Rattle.rule_table.specs.declared.call.CallName.TheVariants.{CreateKey}
use Rattle.b2_types.specs.Fault.{plain}
use Rattle.b2_types.specs.Naming.{of_number, on_account}
use Rattle.b2_types.specs.declared.answer.AnswerOf.TheVariants as answer
use Rattle.b2_types.specs.declared.call.Call.TheVariants as calls
use Rattle.b2_types.specs.declared.fault.Fault.{Fault}
use Rattle.b2_model.specs.AskKeys.{create_key}
use Rattle.b2_model.specs.Checks.{first_fault}
use Rattle.policy_rules.specs.Asked.{caller}
use Rattle.core_policy.specs.Rules.{all_stand, judged_on, rules_on}
use Rattle.core_decisions.specs.Decided.{IsDrawn}
use Rattle.core_decisions.specs.declared.decision.Decision.TheVariants as decision
use Rattle.core_decisions.proofs.Drawn.{denied_first, refused_next, undrawn}
use Rattle.core_keys.specs.Made.{key_fault, written}
use Rattle.core_keys.proofs.Made.{made_by, refusal_of}
use Rattle.core_keys.proofs.OnKeys.{create_rules}
use Rattle.core_keys.proofs.create.create_key.Goals as goal

pub returns-in-Err : goal.returns-in-Err
returns-in-Err g c =
    let M = c.args.core.now in
    let q = c.args.call.now in
    let token = option_copied c.args.token in
    let who = caller c.asker_of-asker.result in
    let rules = λ (bs : List ℕ). first_fault (rules_on M c.args.t (judged_on CreateKey [] (record (on_account q.account) { some_bucket = Some (map of_number bs) })) who (all_stand M bs)) in
    undrawn M c.args.t token (calls.CreateKey q) (g.W.Words.ahead c.args.luck.now) (g.W.Words.ahead c.args.luck.now) c.plain_refusal.result refl
    (denied_first M c.args.t token (calls.CreateKey q) (create_rules M c.args.t token q) who (plain c.in-Err.kind) c.plain_refusal.result
    c.asker_of-asker.ensures c.plain_refusal.ensures (c.in-Err.ensures ∙ ap rules c.buckets_of.ensures))

pub returns-in-Err-keys_create : goal.returns-in-Err-keys_create
returns-in-Err-keys_create g c =
    let M = c.args.core.now in
    let q = c.args.call.now in
    let token = option_copied c.args.token in
    let who = caller c.asker_of-asker.result in
    let rules = λ (bs : List ℕ). first_fault (rules_on M c.args.t (judged_on CreateKey [] (record (on_account q.account) { some_bucket = Some (map of_number bs) })) who (all_stand M bs)) in
    let ahead = g.W.Words.ahead c.args.luck.now in
    let left = g.W.Words.ahead c.keys_create.new.luck in
    IfOk-weaker c.not_made.result (λ d. (fault : Fault) × (key_fault c.in-Err-keys_create.error ≡ Some fault) × (d ≡ decision.Reply (answer.Refused fault)))
    (IsDrawn M c.args.t token (calls.CreateKey q) ahead left)
    (λ d told.
    let refused = refusal_of _ c.in-Err-keys_create.error told.0 told.1 c.in-Err-keys_create.ensures.refused in
    let same = refusal_of _ c.in-Err-keys_create.error told.0 told.1 c.in-Err-keys_create.ensures.undrawn in
    undrawn M c.args.t token (calls.CreateKey q) ahead left d (ap g.W.Words.ahead same.2)
    (refused_next M c.args.t token (calls.CreateKey q) (create_rules M c.args.t token q) who told.0 d c.asker_of-asker.ensures told.2
    (c.in_default.ensures ∙ ap rules c.buckets_of.ensures)
    (λ copy words. ap Some (sym refused.1) ∙ sym (refused.2 M words (sym c.next_key.ensures)) ∙ ap (λ w. first_fault (create_key M w.key c.args.t words q).own) c.asker_of-asker.ensures))) c.not_made.ensures

pub returns : goal.returns
returns g c =
    let M = c.args.core.now in
    let q = c.args.call.now in
    let token = option_copied c.args.token in
    let who = caller c.asker_of-asker.result in
    let rules = λ (bs : List ℕ). first_fault (rules_on M c.args.t (judged_on CreateKey [] (record (on_account q.account) { some_bucket = Some (map of_number bs) })) who (all_stand M bs)) in
    made_by M c.args.t token q who c.asker_of-asker.ensures (c.in_default.ensures ∙ ap rules c.buckets_of.ensures)
    (λ words. ap (λ w. first_fault (create_key M w.key c.args.t words q).own) (sym c.asker_of-asker.ensures) ∙ c.in-Ok.ensures.passed M words (sym c.next_key.ensures))
    (g.W.Words.ahead c.args.luck.now) (g.W.Words.ahead c.keys_create.new.luck) c.next_key.result c.in-Ok.made c.in_ok-decision.decision (sym c.next_key.ensures) c.in-Ok.ensures.made
    (c.in_ok-decision.ensures ∙ ap (λ s. written s c.args.t q.version c.in-Ok.made.key c.in-Ok.made.secret) c.settings.ensures)
