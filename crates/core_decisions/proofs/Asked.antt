-- A call is decided by the first of its refusals, or by its plan.
use Rattle.std.proofs.Common.{◌≡◌, ℕ, List, [], Option, Some, None, refl, sym, ap, subst, ◌∙◌}
use Rattle.b2_base.specs.declared.extent.Extent.{Extent}
use Rattle.b2_types.specs.declared.fault.Fault.{Fault}
use Rattle.b2_types.specs.declared.call.Call.{Call}
use Rattle.b2_types.specs.declared.call.Call.TheVariants as call
use Rattle.b2_types.specs.declared.answer.AnswerOf.TheVariants as answer
use Rattle.b2_types.specs.declared.shown.Shown.{Shown}
use Rattle.b2_types.specs.declared.record.ChangeOf.{ChangeOf}
use Rattle.b2_types.specs.declared.record.RecordOf.{RecordOf}
use Rattle.b2_model.specs.Checks.{Check, first_fault}
use Rattle.b2_model.specs.State.{State, Pieces}
use Rattle.b2_model.specs.Plan.{Plan, shows, writes}
use Rattle.b2_model.specs.Changes.{after_record}
use Rattle.b2_model.specs.Ask.{at_moment, outcome_of, outcome_or_refusal, plan_of, refusals_of, shown_by}
use Rattle.sound_states.specs.Sound.{IsSound}
use Rattle.sound_steps.specs.FitSteps.{Applies, IsFitCall}
use Rattle.sound_steps.proofs.Outcomes.{ask_applies}
use Rattle.contents_agree.specs.ContentsOf.{brought}
use Rattle.contents_steps.specs.Copies.{copy_made}
use Rattle.contents_steps.proofs.Brought.{brings_none}
use Rattle.core_decisions.specs.declared.decision.Decision.TheVariants as decision
use Rattle.core_decisions.specs.Decided.{Copies, IsDecision, IsNoCopy, at_extents}

-- the fault of the first refusal, for all that a plan can be
abbrev Refuses : State Extent → ℕ → Option (List ℕ) → Call → Option Fault → Type 0
Refuses M t token c fault = (copy : Copies) (words : List ℕ) → first_fault (refusals_of (at_extents copy) M t words token c) ≡ fault

pub refused_is : (M : State Extent) (t : ℕ) (token : Option (List ℕ)) (c : Call) (fault : Fault) → Refuses M t token c (Some fault) → IsDecision M t token c (decision.Reply (answer.Refused fault))
unfolding IsDecision
refused_is M t token c fault refuses = (
  tt,
  λ copy words.
      ap (outcome_or_refusal M t words (plan_of (at_extents copy) M t words token c)) (refuses copy words),
)

-- what is shown where nothing refuses it
pub shown_is : (M : State Extent) (t : ℕ) (token : Option (List ℕ)) (c : Call) (own : List Check) (shown : Shown) → Refuses M t token c None
    → ((copy : Copies) (words : List ℕ) → plan_of (at_extents copy) M t words token c ≡ shows own shown) → IsDecision M t token c (decision.Reply (answer.Json shown))
unfolding IsDecision
shown_is M t token c own shown passes plan = (
  tt,
  λ copy words.
      ap (outcome_or_refusal M t words (plan_of (at_extents copy) M t words token c)) (passes copy words)
      ∙ ap (outcome_of M t words) (plan copy words),
)

-- what an accepted call writes applies
pub applies_by : (K : Pieces Extent) (M : State Extent) (t : ℕ) (words : List ℕ) (token : Option (List ℕ)) (c : Call) (own : List Check) (change : ChangeOf Extent) (shown : Shown) → first_fault (refusals_of K M t words token c) ≡ None
    → plan_of K M t words token c ≡ writes own change shown → IsSound M → IsFitCall c → Applies M (Some change)
applies_by K M t words token c own change shown passes plan sound fit = subst (λ (p : Plan Extent). Applies M p.change) plan (ask_applies K M t words token c sound fit passes)

no_copy_made : (K : Pieces Extent) (M : State Extent) (c : Call) → IsNoCopy c → copy_made K M c ≡ None
no_copy_made K M (call.CopyFile c) alone = absurd alone
no_copy_made K M (call.CopyPart c) alone = absurd alone
no_copy_made K M other alone = refl

-- what a call writes that copies nothing brings nothing
pub brings_by : (K : Pieces Extent) (M : State Extent) (t : ℕ) (words : List ℕ) (token : Option (List ℕ)) (c : Call) (own : List Check) (change : ChangeOf Extent) (shown : Shown) → plan_of K M t words token c ≡ writes own change shown
    → IsNoCopy c → brought change ≡ []
brings_by K M t words token c own change shown plan alone =
    brings_none K M t words (shown_by M token c) c change (no_copy_made K M c alone) (ap (λ (p : Plan Extent). p.change) plan)

-- some copy
abbrev pub no_copy : Copies
no_copy content at len = record { content = record { at = 0; len = 0 }; digest = []; told = None }

-- what is written
pub written_is : (M : State Extent) (t : ℕ) (token : Option (List ℕ)) (c : Call) (r : RecordOf Extent) (shown : Shown) → Refuses M t token c None
    → ((copy : Copies) (words : List ℕ) → (own : List Check) × (plan_of (at_extents copy) M t words token c ≡ writes own r.change shown)) → r.at ≡ t → IsDecision M t token c (decision.Write r (answer.Json shown))
unfolding IsDecision
written_is M t token c r shown passes plan at = (
  (
    λ sound fit. applies_by (at_extents no_copy) M t [] token c (plan no_copy []).0 r.change shown (passes no_copy []) (plan no_copy []).1 sound fit,
    λ alone. brings_by (at_extents no_copy) M t [] token c (plan no_copy []).0 r.change shown (plan no_copy []).1 alone,
  ),
  λ copy words. ap (outcome_or_refusal M t words (plan_of (at_extents copy) M t words token c)) (passes copy words)
      ∙ ap (outcome_of M t words) (plan copy words).1
      ∙ ap (λ n. record { state = after_record (at_moment M t) (record { at = n; change = r.change }); answer = answer.Json shown; words = words }) (sym at),
)
