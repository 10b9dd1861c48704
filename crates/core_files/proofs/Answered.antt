-- What writes nothing is decided by the first of its own rules that fails, or by what it answers.
use Rattle.std.proofs.Common.{◌≡◌, ℕ, List, Option, Some, None, refl, sym, ap, subst, ◌∙◌}
use Rattle.b2_base.specs.declared.extent.Extent.{Extent}
use Rattle.b2_types.specs.declared.call.Call.{Call}
use Rattle.b2_types.specs.declared.answer.AnswerOf.{AnswerOf}
use Rattle.b2_types.specs.declared.fault.Fault.{Fault}
use Rattle.b2_model.specs.Checks.{Check, first_fault}
use Rattle.b2_model.specs.State.{State}
use Rattle.b2_model.specs.Policy.{Caller, caller_of}
use Rattle.b2_model.specs.Plan.{Plan, answers, or_absent}
use Rattle.b2_model.specs.Ask.{outcome_of, outcome_or_refusal, plan_of, refusals_of}
use Rattle.core_policy.proofs.Order.{by_next}
use Rattle.core_decisions.specs.declared.decision.Decision.{Decision}
use Rattle.core_decisions.specs.declared.decision.Decision.TheVariants as decision
use Rattle.core_decisions.specs.Decided.{Copies, IsDecision, at_extents}
use Rattle.core_decisions.proofs.Asked.{refused_is}
use Rattle.core_decisions.proofs.Forms.{Form, own_of, policy_on, rules_are}
use Rattle.core_files.specs.Replied.{or_refusal}

answered_is : (M : State Extent) (t : ℕ) (token : Option (List ℕ)) (c : Call) (own : List Check) (told : AnswerOf Extent)
    → ((copy : Copies) (words : List ℕ) → first_fault (refusals_of (at_extents copy) M t words token c) ≡ None)
    → ((copy : Copies) (words : List ℕ) → plan_of (at_extents copy) M t words token c ≡ answers own told) → IsDecision M t token c (decision.Reply told)
unfolding IsDecision
answered_is M t token c own told passes plan = (
  tt,
  λ copy words.
      ap (outcome_or_refusal M t words (plan_of (at_extents copy) M t words token c)) (passes copy words)
      ∙ ap (outcome_of M t words) (plan copy words),
)

-- the first of all its refusals is that of its own rules
pub replied_is : (M : State Extent) (t : ℕ) (token : Option (List ℕ)) (c : Call) (own : List Check) (told : AnswerOf Extent) (d : Decision)
    → d ≡ decision.Reply (or_refusal (first_fault own) told)
    → ((copy : Copies) (words : List ℕ) → first_fault (refusals_of (at_extents copy) M t words token c) ≡ first_fault own)
    → (None ≡ first_fault own → (copy : Copies) (words : List ℕ) → plan_of (at_extents copy) M t words token c ≡ answers own told) → IsDecision M t token c d
replied_is M t token c own told d is refuses plan = by (first_fault own) refl where
  same : (o : Option Fault) → first_fault own ≡ o → decision.Reply (or_refusal o told) ≡ d
  same o found = sym (is ∙ ap (λ x. decision.Reply (or_refusal x told)) found)

  by : (o : Option Fault) → first_fault own ≡ o → IsDecision M t token c d
  by None found = subst (IsDecision M t token c) (same None found) (answered_is M t token c own told (λ copy words. refuses copy words ∙ found) (plan (sym found)))
  by (Some fault) found = subst (IsDecision M t token c) (same (Some fault) found) (refused_is M t token c fault (λ copy words. refuses copy words ∙ found))

-- the same behind the policy, which lets it pass
pub replied_for : {X : Type 0} (M : State Extent) (t : ℕ) (token : Option (List ℕ)) (c : Call) (form : Form M t token c X) (who : Caller) (x : X) (own : List Check) (told : AnswerOf Extent) (d : Decision)
    → who ≡ caller_of M token → d ≡ decision.Reply (or_refusal (first_fault own) told) → None ≡ first_fault (policy_on M t token c who form) → form.thing ≡ Some x
    → ((copy : Copies) (words : List ℕ) → form.plan copy words x ≡ answers own told) → IsDecision M t token c d
replied_for M t token c form who x own told d asks is passes found plan =
    let whole = λ (copy : Copies) (words : List ℕ). ap (or_absent form.absent (form.plan copy words)) found ∙ plan copy words in
    replied_is M t token c own told d is
    (λ copy words.
    ap first_fault (rules_are M t token c form who copy words asks)
    ∙ sym (by_next (policy_on M t token c who form) (own_of M t token c form copy words) passes)
    ∙ ap (λ (p : Plan Extent). first_fault p.own) (whole copy words))
    (λ none copy words. form.is copy words ∙ whole copy words)
