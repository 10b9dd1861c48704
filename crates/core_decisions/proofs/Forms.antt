-- Calls on something that is looked up: the rules of the policy stand first, and then those of its own.
use Rattle.std.proofs.Common.{◌≡◌, ℕ, List, [], ◌++◌, Option, Some, None, unwrap_or, refl, sym, ap, subst, ◌∙◌}
use Rattle.b2_base.specs.declared.extent.Extent.{Extent}
use Rattle.rule_table.specs.declared.fault.FaultKind.{FaultKind}
use Rattle.b2_types.specs.declared.fault.Fault.{Fault}
use Rattle.b2_types.specs.declared.call.Call.{Call}
use Rattle.b2_types.specs.declared.answer.AnswerOf.TheVariants as answer
use Rattle.b2_types.specs.declared.shown.Shown.{Shown}
use Rattle.b2_types.specs.declared.record.ChangeOf.{ChangeOf}
use Rattle.b2_types.specs.declared.record.RecordOf.{RecordOf}
use Rattle.b2_model.specs.Checks.{Check, first_fault}
use Rattle.b2_model.specs.State.{State}
use Rattle.b2_model.specs.Policy.{Caller, caller_of, judged_call}
use Rattle.b2_model.specs.Plan.{Plan, or_absent, shows, writes}
use Rattle.b2_model.specs.Ask.{plan_of, refusals_of}
use Rattle.core_policy.specs.Rules.{rules_on, standing}
use Rattle.core_policy.proofs.Order.{by_first, by_next}
use Rattle.core_decisions.specs.declared.decision.Decision.{Decision}
use Rattle.core_decisions.specs.declared.decision.Decision.TheVariants as decision
use Rattle.core_decisions.specs.Decided.{Copies, IsDecision, at_extents}
use Rattle.core_decisions.proofs.Asked.{refused_is, shown_is, written_is}

-- what a call looks up, and what it comes to for what stands there
pub record Form (M : State Extent) (t : ℕ) (token : Option (List ℕ)) (c : Call) (X : Type 0) : Type 0 where
  pub absent : FaultKind
  pub thing : Option X
  pub plan : Copies → List ℕ → X → Plan Extent
  pub quiet : (copy : Copies) (words : List ℕ) (x : X) → (plan copy words x).exists ≡ []
  pub refusals : (copy : Copies) (words : List ℕ) → refusals_of (at_extents copy) M t words token c
      ≡ rules_on M t (judged_call c) (caller_of M token) (or_absent absent (plan copy words) thing).exists ++ (or_absent absent (plan copy words) thing).own
  pub is : (copy : Copies) (words : List ℕ) → plan_of (at_extents copy) M t words token c ≡ or_absent absent (plan copy words) thing

exists_of : {X : Type 0} (kind : FaultKind) (plan : X → Plan Extent) → ((x : X) → (plan x).exists ≡ []) → (o : Option X) → (or_absent kind plan o).exists ≡ standing kind o
exists_of kind plan quiet None = refl
exists_of kind plan quiet (Some x) = quiet x

-- the rules of the policy on the call, for who asks
abbrev pub policy_on : {X : Type 0} (M : State Extent) (t : ℕ) (token : Option (List ℕ)) (c : Call) → Caller → Form M t token c X → List Check
policy_on M t token c who form = rules_on M t (judged_call c) who (standing form.absent form.thing)

-- all that may refuse it
abbrev pub own_of : {X : Type 0} (M : State Extent) (t : ℕ) (token : Option (List ℕ)) (c : Call) → Form M t token c X → Copies → List ℕ → List Check
own_of M t token c form copy words = (or_absent form.absent (form.plan copy words) form.thing).own

pub rules_are : {X : Type 0} (M : State Extent) (t : ℕ) (token : Option (List ℕ)) (c : Call) (form : Form M t token c X) (who : Caller) (copy : Copies) (words : List ℕ) → who ≡ caller_of M token
    → refusals_of (at_extents copy) M t words token c ≡ policy_on M t token c who form ++ own_of M t token c form copy words
rules_are M t token c form who copy words asks = form.refusals copy words
    ∙ ap (λ exists. rules_on M t (judged_call c) (caller_of M token) exists ++ own_of M t token c form copy words) (exists_of form.absent (form.plan copy words) (form.quiet copy words) form.thing)
    ∙ ap (λ w. policy_on M t token c w form ++ own_of M t token c form copy words) (sym asks)

-- the policy refuses it
pub denied_by : {X : Type 0} (M : State Extent) (t : ℕ) (token : Option (List ℕ)) (c : Call) (form : Form M t token c X) (who : Caller) (fault : Fault) (d : Decision) → who ≡ caller_of M token
    → d ≡ decision.Reply (answer.Refused fault) → Some fault ≡ first_fault (policy_on M t token c who form) → IsDecision M t token c d
denied_by M t token c form who fault d asks refused is = subst (IsDecision M t token c) (sym refused) (refused_is M t token c fault (λ copy words.
    ap first_fault (rules_are M t token c form who copy words asks)
    ∙ sym (by_first (policy_on M t token c who form) (own_of M t token c form copy words) fault is)))

-- a rule of its own refuses it
pub refused_by : {X : Type 0} (M : State Extent) (t : ℕ) (token : Option (List ℕ)) (c : Call) (form : Form M t token c X) (who : Caller) (fault : Fault) (d : Decision) → who ≡ caller_of M token
    → d ≡ decision.Reply (answer.Refused fault) → None ≡ first_fault (policy_on M t token c who form)
    → ((copy : Copies) (words : List ℕ) → Some fault ≡ first_fault (own_of M t token c form copy words)) → IsDecision M t token c d
refused_by M t token c form who fault d asks refused passes is = subst (IsDecision M t token c) (sym refused) (refused_is M t token c fault (λ copy words.
    ap first_fault (rules_are M t token c form who copy words asks)
    ∙ sym (by_next (policy_on M t token c who form) (own_of M t token c form copy words) passes)
    ∙ sym (is copy words)))

pub nothing_refuses : {X : Type 0} (M : State Extent) (t : ℕ) (token : Option (List ℕ)) (c : Call) (form : Form M t token c X) (who : Caller) (copy : Copies) (words : List ℕ) → who ≡ caller_of M token
    → None ≡ first_fault (policy_on M t token c who form) → None ≡ first_fault (own_of M t token c form copy words) → first_fault (refusals_of (at_extents copy) M t words token c) ≡ None
nothing_refuses M t token c form who copy words asks passes own =
    ap first_fault (rules_are M t token c form who copy words asks)
    ∙ sym (by_next (policy_on M t token c who form) (own_of M t token c form copy words) passes)
    ∙ sym own

-- it shows something, and no rule of its own refuses it
pub shown_for : {X : Type 0} (M : State Extent) (t : ℕ) (token : Option (List ℕ)) (c : Call) (form : Form M t token c X) (who : Caller) (x : X) (own : List Check) (shown : Shown) → who ≡ caller_of M token
    → None ≡ first_fault (policy_on M t token c who form) → form.thing ≡ Some x → None ≡ first_fault own
    → ((copy : Copies) (words : List ℕ) → form.plan copy words x ≡ shows own shown)
    → IsDecision M t token c (decision.Reply (answer.Json shown))
shown_for M t token c form who x own shown asks passes found none plan =
    let plan_is = λ (copy : Copies) (words : List ℕ). ap (or_absent form.absent (form.plan copy words)) found ∙ plan copy words in
    shown_is M t token c own shown
    (λ copy words. nothing_refuses M t token c form who copy words asks passes (none ∙ ap (λ (p : Plan Extent). first_fault p.own) (sym (plan_is copy words))))
    (λ copy words. form.is copy words ∙ plan_is copy words)

-- it writes a record
pub written_for : {X : Type 0} (M : State Extent) (t : ℕ) (token : Option (List ℕ)) (c : Call) (form : Form M t token c X) (who : Caller) (x : X) (r : RecordOf Extent) (shown : Shown) → who ≡ caller_of M token
    → None ≡ first_fault (policy_on M t token c who form) → form.thing ≡ Some x
    → ((copy : Copies) (words : List ℕ) → (own : List Check) × (form.plan copy words x ≡ writes own r.change shown) × (None ≡ first_fault own)) → r.at ≡ t
    → IsDecision M t token c (decision.Write r (answer.Json shown))
written_for M t token c form who x r shown asks passes found plan at =
    let plan_is = λ (copy : Copies) (words : List ℕ). ap (or_absent form.absent (form.plan copy words)) found ∙ (plan copy words).1 in
    written_is M t token c r shown
    (λ copy words. nothing_refuses M t token c form who copy words asks passes ((plan copy words).2 ∙ ap (λ (p : Plan Extent). first_fault p.own) (sym (plan_is copy words))))
    (λ copy words. ((plan copy words).0, form.is copy words ∙ plan_is copy words))
    at

pub some_is : {X : Type 0} (x y : X) → Some x ≡ Some y → x ≡ y
some_is x y is = ap (λ o. unwrap_or o x) is

-- it writes the record that was decided on
pub decided_for : {X : Type 0} (M : State Extent) (t : ℕ) (token : Option (List ℕ)) (c : Call) (form : Form M t token c X) (who : Caller) (x : X) (r : RecordOf Extent) (own : Copies → List ℕ → List Check) (change : ChangeOf Extent) (shown : Shown)
    → who ≡ caller_of M token → None ≡ first_fault (policy_on M t token c who form) → form.thing ≡ Some x
    → ((copy : Copies) (words : List ℕ) → form.plan copy words x ≡ writes (own copy words) change shown)
    → ((copy : Copies) (words : List ℕ) → (None ≡ first_fault (own_of M t token c form copy words)) × (Some r.change ≡ (or_absent form.absent (form.plan copy words) form.thing).change))
    → r.at ≡ t → IsDecision M t token c (decision.Write r (answer.Json shown))
decided_for M t token c form who x r own change shown asks passes found plan decided at =
    let whole = λ (copy : Copies) (words : List ℕ). ap (or_absent form.absent (form.plan copy words)) found ∙ plan copy words in
    written_for M t token c form who x r shown asks passes found
    (λ copy words. (
      own copy words,
      plan copy words ∙ ap (λ ch. writes (own copy words) ch shown) (sym (some_is r.change change ((decided copy words).1 ∙ ap (λ (p : Plan Extent). p.change) (whole copy words)))),
      (decided copy words).0 ∙ ap (λ (p : Plan Extent). first_fault p.own) (whole copy words),
    ))
    at

-- a rule of its own refuses what it found
pub refused_found : {X : Type 0} (M : State Extent) (t : ℕ) (token : Option (List ℕ)) (c : Call) (form : Form M t token c X) (who : Caller) (x : X) (fault : Fault) (d : Decision) → who ≡ caller_of M token
    → d ≡ decision.Reply (answer.Refused fault) → None ≡ first_fault (policy_on M t token c who form) → form.thing ≡ Some x
    → ((copy : Copies) (words : List ℕ) → Some fault ≡ first_fault (form.plan copy words x).own) → IsDecision M t token c d
refused_found M t token c form who x fault d asks refused passes found is = refused_by M t token c form who fault d asks refused passes
    (λ copy words. is copy words ∙ ap (λ o. first_fault (or_absent form.absent (form.plan copy words) o).own) (sym found))
