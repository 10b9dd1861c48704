-- What calls that are amiss come to.
use Rattle.std.proofs.Common.{◌≡◌, ℕ, Bool, true, false, List, [], ◌++◌, Option, Some, None, if◌then◌else◌, refl, sym, ap, subst, ◌∙◌}
use Rattle.b2_base.specs.declared.extent.Extent.{Extent}
use Rattle.b2_types.specs.declared.answer.AnswerOf.TheVariants as answer
use Rattle.b2_types.specs.declared.call.Call.TheVariants as call
use Rattle.b2_types.specs.declared.fault.BadCall.{BadCall}
use Rattle.b2_types.specs.declared.fault.Fault.{Fault}
use Rattle.b2_types.specs.Need.{need}
use Rattle.b2_model.specs.Ask.{bad_plan, is_open}
use Rattle.b2_model.specs.Checks.{Check, first_fault, or_else}
use Rattle.b2_model.specs.Policy.{caller_of, token_rules}
use Rattle.b2_model.specs.State.{State}
use Rattle.core_policy.proofs.Order.{then_next}
use Rattle.core_decisions.specs.declared.decision.Decision.{Decision}
use Rattle.core_decisions.specs.declared.decision.Decision.TheVariants as decision
use Rattle.core_decisions.specs.Decided.{IsDecision}
use Rattle.core_decisions.proofs.Asked.{refused_is}

abbrev pub token_part : State Extent → ℕ → Option (List ℕ) → BadCall → List Check
token_part M t token c = if is_open M (call.Bad c) then [] else token_rules t (need c.name).tokens (λ g. true) (caller_of M token)

-- the token's rules, and then what is amiss
pub told_bad : (M : State Extent) (t : ℕ) (token : Option (List ℕ)) (c : BadCall) (policy : Option Fault) (fault : Fault) (d : Decision) → d ≡ decision.Reply (answer.Refused fault)
    → policy ≡ first_fault (token_part M t token c) → or_else policy (Some c.fault) ≡ Some fault → IsDecision M t token (call.Bad c) d
told_bad M t token c policy fault d refused is told =
    subst (IsDecision M t token (call.Bad c)) (sym refused) (refused_is M t token (call.Bad c) fault (λ copy words.
    then_next (token_part M t token c) (bad_plan {C = Extent} c.fault).own
    ∙ ap (λ o. or_else o (Some c.fault)) (sym is) ∙ told))
