-- Calls that give a token, by their rules and by what was given.
use Rattle.std.proofs.Common.{◌≡◌, ℕ, List, [], ◌∷◌, ◌++◌, Option, Some, None, drop, slice_index, refl, sym, ap, subst, ◌∙◌}
use Rattle.b2_base.specs.declared.extent.Extent.{Extent}
use Rattle.rule_table.specs.declared.fault.FaultKind.TheVariants.{Cap}
use Rattle.b2_types.specs.declared.answer.AnswerOf.{AnswerOf}
use Rattle.b2_types.specs.declared.answer.AnswerOf.TheVariants as answer
use Rattle.b2_types.specs.declared.call.Call.{Call}
use Rattle.b2_types.specs.declared.fault.Fault.{Fault}
use Rattle.b2_types.specs.declared.shown.Shown.{Shown}
use Rattle.b2_types.specs.Fault.{plain}
use Rattle.b2_model.specs.Ask.{Outcome, at_moment, outcome_or_refusal, plan_of, refusals_of}
use Rattle.b2_model.specs.Checks.{Check, check, first_fault}
use Rattle.b2_model.specs.Plan.{Plan, grants, new_token, no_serial, or_absent}
use Rattle.b2_model.specs.Policy.{Caller, caller_of}
use Rattle.b2_model.specs.State.{State}
use Rattle.auth_grants.specs.Tokens.{GiveTwo}
use Rattle.auth_grants.specs.declared.grants.Terms.{Terms}
use Rattle.core_policy.proofs.Order.{by_next}
use Rattle.core_state.specs.GivenTokens.{GivesToken, HasGiven, HasNone, grant_of, with_token}
use Rattle.core_decisions.specs.Decided.{ComesTo, Copies, IsAnswer, IsDecision, answering, at_extents}
use Rattle.core_decisions.specs.declared.decision.Decision.TheVariants as decision
use Rattle.core_decisions.proofs.Drawn.{answered, as_ruled, comes_to, passed_first}
use Rattle.core_decisions.proofs.Forms.{Form, policy_on}
use Rattle.core_tokens.specs.Giving.{IsGiving}

-- ---- the rules pass

-- the first rules pass, and those of its own but for the want of a serial
pub gives_if : (M : State Extent) (t : ℕ) (token : Option (List ℕ)) (c : Call) (terms : Terms) (shows : List ℕ → Shown) (own : List Check) → None ≡ first_fault own
    → ((copy : Copies) (words : List ℕ) → (plan_of (at_extents copy) M t words token c ≡ grants (own ++ no_serial M ∷ []) (grant_of (new_token M words) terms) (shows (new_token M words)))
    × (first_fault (refusals_of (at_extents copy) M t words token c) ≡ first_fault (own ++ no_serial M ∷ [])))
    → IsGiving M t token c terms shows
unfolding IsGiving
gives_if M t token c terms shows own none made = λ copy words.
    let plan : Plan Extent = grants (own ++ no_serial M ∷ []) (grant_of (new_token M words) terms) (shows (new_token M words)) in
    let by_serial = (made copy words).1 ∙ sym (by_next own (no_serial M ∷ []) none) in
    let is = ap (λ p. outcome_or_refusal M t words p (first_fault (refusals_of (at_extents copy) M t words token c))) (made copy words).0
    ∙ ap (outcome_or_refusal M t words plan) by_serial in (
      λ left. is ∙ ap (λ b. outcome_or_refusal M t words plan (first_fault (check Cap b ∷ []))) left,
      λ full. is ∙ ap (λ b. outcome_or_refusal M t words plan (first_fault (check Cap b ∷ []))) full,
    )

-- where something is looked up
pub gives_for : {X : Type 0} (M : State Extent) (t : ℕ) (token : Option (List ℕ)) (c : Call) (form : Form M t token c X) (who : Caller) (x : X) (terms : Terms) (shows : List ℕ → Shown) (own : List Check)
    → who ≡ caller_of M token → None ≡ first_fault (policy_on M t token c who form) → form.thing ≡ Some x → None ≡ first_fault own
    → ((copy : Copies) (words : List ℕ) → form.plan copy words x ≡ grants (own ++ no_serial M ∷ []) (grant_of (new_token M words) terms) (shows (new_token M words)))
    → IsGiving M t token c terms shows
gives_for M t token c form who x terms shows own asks passes found none plan = gives_if M t token c terms shows own none (λ copy words.
    let whole = ap (or_absent form.absent (form.plan copy words)) found ∙ plan copy words in (
      form.is copy words ∙ whole,
      passed_first M t token c (as_ruled M t token c form) who copy words asks passes ∙ ap (λ (p : Plan Extent). first_fault p.own) whole,
    ))

-- ---- what was given

unknown : (M : State Extent) (t : ℕ) (token : Option (List ℕ)) (c : Call) (ahead told left : Option (List ℕ)) (made : List ℕ → Outcome Extent)
    → ComesTo M t token c ahead told made → ComesTo M t token c None left made
unfolding ComesTo
unknown M t token c ahead told left made is = (is.0, is.1, tt, is.3)

-- the words of which two were drawn
drawn : (M : State Extent) (t : ℕ) (token : Option (List ℕ)) (c : Call) (ahead left : Option (List ℕ)) (first second : ℕ) (made : ℕ → ℕ → List ℕ → Outcome Extent) → GiveTwo ahead first second left
    → ((words : List ℕ) → ComesTo M t token c (Some words) (Some (drop 2 words)) (made (slice_index words 0) (slice_index words 1))) → ComesTo M t token c ahead left (made first second)
drawn M t token c None left first second made two all =
    unknown M t token c (Some (first ∷ second ∷ [])) (Some []) left (made first second) (all (first ∷ second ∷ []))
drawn M t token c (Some ahead) None first second made two all = absurd two
drawn M t token c (Some ahead) (Some left) first second made (one, other, rest) all = rw (one, other, rest) (all ahead)

pub token_given : (M : State Extent) (t : ℕ) (token : Option (List ℕ)) (c : Call) (terms : Terms) (shows : List ℕ → Shown) (ahead left : Option (List ℕ)) (N : State Extent) (text : List ℕ) (shown : Shown)
    → IsGiving M t token c terms shows → HasGiven M t terms ahead left N text → shown ≡ shows text → IsAnswer M t token c ahead left N (answer.Json shown)
unfolding IsGiving
token_given M t token c terms shows ahead left N text shown gives given is =
    let made : ℕ → ℕ → List ℕ → Outcome Extent = λ first second rest.
    let told = new_token M (first ∷ second ∷ []) in answering (with_token M t told terms) (answer.Json (shows told)) rest in
    let all = drawn M t token c ahead left given.first given.second made given.words (λ words.
    comes_to M t token c (Some words) (Some (drop 2 words)) (made (slice_index words 0) (slice_index words 1)) words (drop 2 words) (refl, refl) (λ copy. (gives copy words).0 given.serial)) in
    rw (given.state, is, given.text_is) all

pub none_given : (M : State Extent) (t : ℕ) (token : Option (List ℕ)) (c : Call) (terms : Terms) (shows : List ℕ → Shown) (ahead left : Option (List ℕ)) (N : State Extent)
    → IsGiving M t token c terms shows → HasNone M t ahead left N → IsAnswer M t token c ahead left N (answer.Refused (plain Cap))
unfolding IsGiving
none_given M t token c terms shows ahead left N gives none = rw (none.state, none.undrawn) (all ahead)
  where
    all : (o : Option (List ℕ)) → IsAnswer M t token c o o (at_moment M t) (answer.Refused (plain Cap))
    all None = comes_to M t token c None None (answering (at_moment M t) (answer.Refused (plain Cap))) [] [] tt (λ copy. (gives copy []).1 none.serial)
    all (Some words) = comes_to M t token c (Some words) (Some words) (answering (at_moment M t) (answer.Refused (plain Cap))) words words (refl, refl) (λ copy. (gives copy words).1 none.serial)

-- ---- the ends of such a call

pub refused_told : (M : State Extent) (t : ℕ) (token : Option (List ℕ)) (c : Call) (ahead : Option (List ℕ)) (N : State Extent) (told : AnswerOf Extent) (fault : Fault) → N ≡ at_moment M t → told ≡ answer.Refused fault
    → IsDecision M t token c (decision.Reply (answer.Refused fault)) → IsAnswer M t token c ahead ahead N told
refused_told M t token c ahead N told fault state is refused =
    answered M t token c ahead ahead N told refl state (subst (λ a. IsDecision M t token c (decision.Reply a)) (sym is) refused)

pub none_told : (M : State Extent) (t : ℕ) (token : Option (List ℕ)) (c : Call) (terms : Terms) (shows : List ℕ → Shown) (ahead left : Option (List ℕ)) (N : State Extent) (text : Option (List ℕ)) (told : AnswerOf Extent)
    → IsGiving M t token c terms shows → GivesToken M t terms ahead left N text → text ≡ None → told ≡ answer.Refused (plain Cap) → IsAnswer M t token c ahead left N told
none_told M t token c terms shows ahead left N text told gives given is told_is =
    subst (IsAnswer M t token c ahead left N) (sym told_is) (none_given M t token c terms shows ahead left N gives (subst (GivesToken M t terms ahead left N) is given))

pub given_told : (M : State Extent) (t : ℕ) (token : Option (List ℕ)) (c : Call) (terms : Terms) (shows : List ℕ → Shown) (ahead left : Option (List ℕ)) (N : State Extent) (o : Option (List ℕ)) (text : List ℕ) (shown : Shown)
    → IsGiving M t token c terms shows → GivesToken M t terms ahead left N o → o ≡ Some text → (N ≡ with_token M t text terms → shown ≡ shows text) → IsAnswer M t token c ahead left N (answer.Json shown)
given_told M t token c terms shows ahead left N o text shown gives given is shown_is =
    let has : HasGiven M t terms ahead left N text = subst (GivesToken M t terms ahead left N) is given in
    token_given M t token c terms shows ahead left N text shown gives has (shown_is has.state)
