-- What calls come to with the words of a giver.
use Rattle.std.proofs.Common.{◌≡◌, ℕ, List, [], ◌++◌, Option, Some, None, refl, sym, ap, subst, ◌∙◌}
use Rattle.b2_base.specs.declared.extent.Extent.{Extent}
use Rattle.b2_types.specs.declared.fault.Fault.{Fault}
use Rattle.b2_types.specs.declared.call.Call.{Call}
use Rattle.b2_types.specs.declared.answer.AnswerOf.{AnswerOf}
use Rattle.b2_types.specs.declared.answer.AnswerOf.TheVariants as answer
use Rattle.b2_model.specs.Checks.{Check, first_fault}
use Rattle.b2_model.specs.Policy.{Caller, caller_of}
use Rattle.b2_model.specs.State.{State}
use Rattle.b2_model.specs.Ask.{Outcome, ask, at_moment, refusals_of}
use Rattle.core_policy.proofs.Order.{by_first, by_next}
use Rattle.core_decisions.specs.declared.decision.Decision.{Decision}
use Rattle.core_decisions.specs.declared.decision.Decision.TheVariants as decision
use Rattle.core_decisions.specs.Decided.{AreWords, ComesTo, Copies, IsAnswer, IsDecision, IsDrawn, answering, at_extents, outcome}
use Rattle.core_decisions.proofs.Asked.{refused_is}
use Rattle.core_decisions.proofs.Forms.{Form, own_of, policy_on, rules_are as rules_on_form}

pub comes_to : (M : State Extent) (t : ℕ) (token : Option (List ℕ)) (c : Call) (ahead left : Option (List ℕ)) (made : List ℕ → Outcome Extent) (words rest : List ℕ) → AreWords ahead left words rest
    → ((copy : Copies) → ask (at_extents copy) M t words token c ≡ made rest) → ComesTo M t token c ahead left made
unfolding ComesTo
comes_to M t token c ahead left made words rest told is = (words, rest, told, is)

-- no word is drawn
pub undrawn : (M : State Extent) (t : ℕ) (token : Option (List ℕ)) (c : Call) (ahead left : Option (List ℕ)) (d : Decision) → left ≡ ahead → IsDecision M t token c d → IsDrawn M t token c ahead left d
unfolding IsDecision
undrawn M t token c ahead left d same is = subst (λ l. IsDrawn M t token c ahead l d) (sym same) (all ahead)
  where
    all : (o : Option (List ℕ)) → IsDrawn M t token c o o d
    all None = (is.0, comes_to M t token c None None (λ rest. outcome M t rest d) [] [] tt (λ copy. is.1 copy []))
    all (Some words) = (is.0, comes_to M t token c (Some words) (Some words) (λ rest. outcome M t rest d) words words (refl, refl) (λ copy. is.1 copy words))

-- a reply, and the state at the moment
pub answered : (M : State Extent) (t : ℕ) (token : Option (List ℕ)) (c : Call) (ahead left : Option (List ℕ)) (N : State Extent) (told : AnswerOf Extent) → left ≡ ahead → N ≡ at_moment M t
    → IsDecision M t token c (decision.Reply told) → IsAnswer M t token c ahead left N told
answered M t token c ahead left N told same state is =
    subst (λ K. ComesTo M t token c ahead left (answering K told)) (sym state) (undrawn M t token c ahead left (decision.Reply told) same is).1

-- ---- rules that stand first, for who asks, and then those of its own

pub record Ruled (M : State Extent) (t : ℕ) (token : Option (List ℕ)) (c : Call) : Type 0 where
  pub first : Caller → List Check
  pub own : Copies → List ℕ → List Check
  pub is : (copy : Copies) (words : List ℕ) → refusals_of (at_extents copy) M t words token c ≡ first (caller_of M token) ++ own copy words

rules_are : (M : State Extent) (t : ℕ) (token : Option (List ℕ)) (c : Call) (r : Ruled M t token c) (who : Caller) (copy : Copies) (words : List ℕ) → who ≡ caller_of M token
    → refusals_of (at_extents copy) M t words token c ≡ r.first who ++ r.own copy words
rules_are M t token c r who copy words asks = r.is copy words ∙ ap (λ w. r.first w ++ r.own copy words) (sym asks)

pub denied_first : (M : State Extent) (t : ℕ) (token : Option (List ℕ)) (c : Call) (r : Ruled M t token c) (who : Caller) (fault : Fault) (d : Decision) → who ≡ caller_of M token
    → d ≡ decision.Reply (answer.Refused fault) → Some fault ≡ first_fault (r.first who) → IsDecision M t token c d
denied_first M t token c r who fault d asks refused is = subst (IsDecision M t token c) (sym refused) (refused_is M t token c fault (λ copy words.
    ap first_fault (rules_are M t token c r who copy words asks) ∙ sym (by_first (r.first who) (r.own copy words) fault is)))

pub refused_next : (M : State Extent) (t : ℕ) (token : Option (List ℕ)) (c : Call) (r : Ruled M t token c) (who : Caller) (fault : Fault) (d : Decision) → who ≡ caller_of M token
    → d ≡ decision.Reply (answer.Refused fault) → None ≡ first_fault (r.first who) → ((copy : Copies) (words : List ℕ) → Some fault ≡ first_fault (r.own copy words)) → IsDecision M t token c d
refused_next M t token c r who fault d asks refused passes is = subst (IsDecision M t token c) (sym refused) (refused_is M t token c fault (λ copy words.
    ap first_fault (rules_are M t token c r who copy words asks) ∙ sym (by_next (r.first who) (r.own copy words) passes) ∙ sym (is copy words)))

-- the first rules pass: those of its own tell
pub passed_first : (M : State Extent) (t : ℕ) (token : Option (List ℕ)) (c : Call) (r : Ruled M t token c) (who : Caller) (copy : Copies) (words : List ℕ) → who ≡ caller_of M token
    → None ≡ first_fault (r.first who) → first_fault (refusals_of (at_extents copy) M t words token c) ≡ first_fault (r.own copy words)
passed_first M t token c r who copy words asks passes =
    ap first_fault (rules_are M t token c r who copy words asks) ∙ sym (by_next (r.first who) (r.own copy words) passes)

-- where something is looked up
abbrev pub as_ruled : {X : Type 0} (M : State Extent) (t : ℕ) (token : Option (List ℕ)) (c : Call) (form : Form M t token c X) → Ruled M t token c
as_ruled M t token c form = record {
  first = λ who. policy_on M t token c who form;
  own = own_of M t token c form;
  is = λ copy words. rules_on_form M t token c form (caller_of M token) copy words refl;
}
