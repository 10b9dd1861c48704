-- A call is answered alike in two states where it is open, judged and planned alike.
use Rattle.std.proofs.Common.{◌≡◌, ℕ, ◌==◌, Bool, true, not, ◌&&◌, List, [], ◌∷◌, ◌++◌, Option, Some, None, if◌then◌else◌, bytes_eq, refl, sym, ap, ◌∙◌}
use Rattle.std.specs.List.{list_any, flat_map}
use Rattle.rule_table.specs.declared.fault.FaultKind.{FaultKind}
use Rattle.rule_table.specs.declared.fault.FaultKind.TheVariants.{P7, P8, P9, P10, NoBucket}
use Rattle.name_rules.specs.Folder.{begins_with}
use Rattle.b2_types.specs.declared.fault.Fault.{Fault}
use Rattle.b2_types.specs.declared.bucket.Bucket.{Bucket}
use Rattle.b2_types.specs.declared.key.Key.{Key}
use Rattle.b2_types.specs.declared.call.Call.{Call}
use Rattle.b2_types.specs.declared.answer.AnswerOf.{AnswerOf}
use Rattle.b2_types.specs.declared.answer.AnswerOf.TheVariants as answer
use Rattle.b2_types.specs.Naming.{places}
use Rattle.b2_model.specs.Checks.{Check, check, some_and, first_fault}
use Rattle.b2_model.specs.Lists.{is_empty}
use Rattle.b2_model.specs.State.{State, Pieces, bucket_at}
use Rattle.b2_model.specs.Plan.{Plan, or_absent, on_bucket}
use Rattle.b2_model.specs.Policy.{Caller, caller_of, limits, prefix_limit, is_for_downloads, lacks, Judged, is_outside, names_at, token_rules, policy_rules}
use Rattle.b2_model.specs.Ask.{ask, plan, plan_of, refusals, refusals_of, is_open, first_rules, shown_by, outcome_or_refusal}
use Rattle.sound_states.proofs.Tests.{equal_numbers}
use Rattle.sound_states.proofs.Found.{found_passes}

-- ---- the rules

-- the rules of the policy, by what they read of the state
abbrev rules_by : ℕ → Judged → Caller → List Check → List ℕ → Bool → List (List ℕ) → List Check
rules_by t j who exists account outside names =
    token_rules t j.row.tokens (λ g. true) who
    ++ (check P7 (not (is_for_downloads who) && some_and (lacks j.caps) who.key)
    ∷ check P8 (some_and (λ a. not (bytes_eq a account)) j.fields.account)
    ∷ check P9 (not (is_empty (limits who)) && outside)
    ∷ [])
    ++ exists ++ check P10 (list_any (λ name. not (begins_with (prefix_limit who) name)) names) ∷ []

module _ {C : Type 0} where
  pub policy_alike : (M N : State C) (t : ℕ) (j : Judged) (who : Caller) (exists : List Check) → M.settings ≡ N.settings
      → list_any (is_outside M (limits who)) (places j.row.things j.fields) ≡ list_any (is_outside N (limits who)) (places j.row.things j.fields)
      → flat_map (names_at M j.fields) j.row.things ≡ flat_map (names_at N j.fields) j.row.things
      → policy_rules M t j (λ g. true) who exists ≡ policy_rules N t j (λ g. true) who exists
  policy_alike M N t j who exists settings outside names =
      ap (λ s. rules_by t j who exists s.account (list_any (is_outside M (limits who)) (places j.row.things j.fields)) (flat_map (names_at M j.fields) j.row.things)) settings
      ∙ ap (λ o. rules_by t j who exists N.settings.account o (flat_map (names_at M j.fields) j.row.things)) outside
      ∙ ap (rules_by t j who exists N.settings.account (list_any (is_outside N (limits who)) (places j.row.things j.fields))) names

  -- ---- the answer

  abbrev pub told : AnswerOf C → Option Fault → AnswerOf C
  told a None = a
  told a (Some fault) = answer.Refused fault

  pub told_is : (M : State C) (t : ℕ) (words : List ℕ) (p : Plan C) (o : Option Fault) → (outcome_or_refusal M t words p o).answer ≡ told p.answer o
  told_is M t words p None = refl
  told_is M t words p (Some fault) = refl

  module _ (P : Pieces C) (M N : State C) (t : ℕ) (words : List ℕ) (token : Option (List ℕ)) (c : Call) where
    refused_alike : caller_of M token ≡ caller_of N token → is_open M c ≡ is_open N c
        → ((exists : List Check) → first_rules M t (caller_of M token) c exists ≡ first_rules N t (caller_of M token) c exists)
        → plan_of P M t words token c ≡ plan_of P N t words token c
        → refusals_of P M t words token c ≡ refusals_of P N t words token c
    refused_alike caller opened rules planned =
        let p = plan_of P M t words token c in
        ap (λ o. (if o then p.exists else first_rules M t (caller_of M token) c p.exists) ++ p.own) opened
        ∙ ap (λ r. (if is_open N c then p.exists else r) ++ p.own) (rules p.exists)
        ∙ ap (λ w. (if is_open N c then p.exists else first_rules N t w c p.exists) ++ p.own) caller
        ∙ ap (refusals N t (caller_of N token) c) planned

    pub answered_alike : caller_of M token ≡ caller_of N token → is_open M c ≡ is_open N c
        → ((exists : List Check) → first_rules M t (caller_of M token) c exists ≡ first_rules N t (caller_of M token) c exists)
        → ((key : Option Key) → plan P M t words key c ≡ plan P N t words key c)
        → (ask P M t words token c).answer ≡ (ask P N t words token c).answer
    answered_alike caller opened rules plans =
        let shown : shown_by M token c ≡ shown_by N token c = ap (λ o. if o then None else (caller_of M token).key) opened ∙ ap (λ w. if is_open N c then None else w.key) caller in
        let planned : plan_of P M t words token c ≡ plan_of P N t words token c = plans (shown_by M token c) ∙ ap (λ key. plan P N t words key c) shown in
        told_is M t words (plan_of P M t words token c) (first_fault (refusals_of P M t words token c))
        ∙ ap (λ p. told p.answer (first_fault (refusals_of P M t words token c))) planned
        ∙ ap (λ checks. told (plan_of P N t words token c).answer (first_fault checks)) (refused_alike caller opened rules planned)
        ∙ sym (told_is N t words (plan_of P N t words token c) (first_fault (refusals_of P N t words token c)))

  -- ---- plans on what is found

  pub absent_alike : {X : Type 0} (kind : FaultKind) (f g : X → Plan C) (o p : Option X) → o ≡ p → ((x : X) → p ≡ Some x → f x ≡ g x) → or_absent kind f o ≡ or_absent kind g p
  absent_alike {X} kind f g o p same each = ap (or_absent kind f) same ∙ here p refl
    where
      here : (q : Option X) → p ≡ q → or_absent kind f q ≡ or_absent kind g q
      here None is = refl
      here (Some x) is = each x is

  pub on_bucket_alike : (M N : State C) (n : ℕ) (f g : Bucket → Plan C) → bucket_at M n ≡ bucket_at N n → ((b : Bucket) → b.num ≡ n → f b ≡ g b) → on_bucket M n f ≡ on_bucket N n g
  on_bucket_alike M N n f g same each =
      absent_alike NoBucket f g (bucket_at M n) (bucket_at N n) same (λ b is. each b (equal_numbers b.num n (found_passes (λ b. b.num == n) N.buckets b is)))
