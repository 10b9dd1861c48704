-- A call that looks into a bucket outside of the caller's is refused.
use Rattle.std.proofs.Common.{◌≡◌, ℕ, Bool, true, false, not, ◌&&◌, ◌||◌, List, [], ◌∷◌, ◌++◌, Option, Some, None, take, bytes_eq, refl, sym, ap, subst, ◌∙◌}
use Rattle.std.specs.List.{list_any}
use Rattle.std.proofs.lemmas.Bool.{false≢true}
use Rattle.rule_table.specs.declared.fault.FaultKind.TheVariants.{P7, P8, P9}
use Rattle.b2_types.specs.declared.fault.Fault.{Fault}
use Rattle.b2_types.specs.declared.call.Call.{Call}
use Rattle.b2_types.specs.declared.call.Call.TheVariants as call
use Rattle.b2_types.specs.declared.answer.AnswerOf.TheVariants as answer
use Rattle.b2_types.specs.Fault.{plain}
use Rattle.b2_model.specs.Checks.{Check, check, some_and, first_fault}
use Rattle.b2_model.specs.Lists.{is_empty, is_among}
use Rattle.b2_model.specs.State.{State, Pieces}
use Rattle.b2_model.specs.Policy.{Caller, caller_of, limits, judged_call, token_rules, call_rules}
use Rattle.b2_model.specs.Ask.{ask, plan_of, refusals_of}
use Rattle.b2_model.specs.Policy.{Judged, is_for_downloads, lacks}
use Rattle.machine_laws.proofs.Passed.{passed}
use Rattle.isolation_laws.specs.Agree.{AreOneRefusal}
use Rattle.isolation_laws.specs.Naming.{LooksInto}
use Rattle.isolation_laws.proofs.Judged.{told, told_is}

-- a rule after some of which none fails
then_first : (cs : List Check) (c : Check) (rest : List Check) → first_fault cs ≡ None → c.fails ≡ true → first_fault (cs ++ c ∷ rest) ≡ Some c.fault
then_first [] c rest none fails = rw fails refl
then_first (d ∷ cs) c rest none fails = let both = passed d cs d.fails refl none in rw both.0 (then_first cs c rest both.1 fails)

outside : (empty among : Bool) → empty ≡ false → among ≡ false → (not empty && (not among || false)) ≡ true
outside true among full apart = absurd (false≢true (sym full))
outside false true full apart = absurd (false≢true (sym apart))
outside false false full apart = refl

-- ---- the first rules of a call, and whatever comes after them

-- where one of the first rules fails, the rules after them don't matter
first_fault_told : (front : List Check) → list_any (λ c. c.fails) front ≡ true → (f : Fault) × ((rest : List Check) → first_fault (front ++ rest) ≡ Some f)
first_fault_told [] fails = absurd (false≢true fails)
first_fault_told (c ∷ front) fails = here c.fails refl fails (first_fault_told front)
  where
    here : (b : Bool) → c.fails ≡ b → (b || list_any (λ c. c.fails) front) ≡ true → (list_any (λ c. c.fails) front ≡ true → (f : Fault) × ((rest : List Check) → first_fault (front ++ rest) ≡ Some f))
        → (f : Fault) × ((rest : List Check) → first_fault (c ∷ front ++ rest) ≡ Some f)
    here true is any more = (c.fault, λ rest. rw is refl)
    here false is any more = let told = more any in (told.0, λ rest. rw is (told.1 rest))

any_last : (cs : List Check) (c : Check) → c.fails ≡ true → list_any (λ c. c.fails) (cs ++ c ∷ []) ≡ true
any_last [] c fails = rw fails refl
any_last (d ∷ cs) c fails = or_true d.fails (any_last cs c fails)
  where
    or_true : (a : Bool) {b : Bool} → b ≡ true → (a || b) ≡ true
    or_true true is = refl
    or_true false is = is

-- the rules up to that of the buckets, for a call that names this one
abbrev front_rules : ℕ → Judged → Caller → List ℕ → ℕ → List Check
front_rules t j who account bucket =
    token_rules t j.row.tokens (λ g. true) who
    ++ check P7 (not (is_for_downloads who) && some_and (lacks j.caps) who.key)
    ∷ check P8 (some_and (λ a. not (bytes_eq a account)) j.fields.account)
    ∷ check P9 (not (is_empty (limits who)) && (not (is_among (limits who) bucket) || false))
    ∷ []

module _ {C : Type 0} where
  abbrev front_of : State C → ℕ → Option (List ℕ) → Call → ℕ → List Check
  front_of M t token c bucket = front_rules t (judged_call c) (caller_of M token) M.settings.account bucket

  -- the call is judged first by these rules, and then by others
  abbrev BeginsWith : Pieces C → State C → ℕ → List ℕ → Option (List ℕ) → Call → ℕ → Type 0
  BeginsWith P M t words token c bucket = (rest : List Check) × (refusals_of P M t words token c ≡ front_of M t token c bucket ++ rest)

  begins : (P : Pieces C) (M : State C) (t : ℕ) (words : List ℕ) (token : Option (List ℕ)) (c : Call) (bucket : ℕ) → LooksInto bucket c → BeginsWith P M t words token c bucket
  begins P M t words token (call.ListFileNames c) bucket looks = subst (BeginsWith P M t words token (call.ListFileNames c)) looks (_, refl)
  begins P M t words token (call.ListFileVersions c) bucket looks = subst (BeginsWith P M t words token (call.ListFileVersions c)) looks (_, refl)
  begins P M t words token (call.ListUnfinishedLargeFiles c) bucket looks = subst (BeginsWith P M t words token (call.ListUnfinishedLargeFiles c)) looks (_, refl)
  begins P M t words token (call.ListParts c) bucket looks = subst (BeginsWith P M t words token (call.ListParts c)) looks (_, refl)
  begins P M t words token (call.GetFileInfo c) bucket looks = subst (BeginsWith P M t words token (call.GetFileInfo c)) looks (_, refl)
  begins P M t words token other bucket looks = absurd looks

  pub refused_outside : (P : Pieces C) (M : State C) (t : ℕ) (words : List ℕ) (token : Option (List ℕ)) (c : Call) (bucket : ℕ) → LooksInto bucket c → is_empty (limits (caller_of M token)) ≡ false → is_among (limits (caller_of M token)) bucket ≡ false
      → first_fault (token_rules t (judged_call c).row.tokens (λ g. true) (caller_of M token) ++ take 2 (call_rules M (judged_call c) (caller_of M token))) ≡ None
      → (ask P M t words token c).answer ≡ answer.Refused (plain P9)
  refused_outside P M t words token c bucket looks full apart none =
      let who = caller_of M token in
      let judged = begins P M t words token c bucket looks in
      let others = check P9 (not (is_empty (limits who)) && (not (is_among (limits who) bucket) || false)) in
      told_is M t words (plan_of P M t words token c) (first_fault (refusals_of P M t words token c))
      ∙ ap (told (plan_of P M t words token c).answer)
      (ap first_fault judged.1
      ∙ then_first (token_rules t (judged_call c).row.tokens (λ g. true) who ++ take 2 (call_rules M (judged_call c) who)) others judged.0 none
      (outside (is_empty (limits who)) (is_among (limits who) bucket) full apart))

  pub refused_both : (P : Pieces C) (M N : State C) (t : ℕ) (words : List ℕ) (token : Option (List ℕ)) (c : Call) (bucket : ℕ) → caller_of M token ≡ caller_of N token → M.settings ≡ N.settings
      → LooksInto bucket c → is_empty (limits (caller_of M token)) ≡ false → is_among (limits (caller_of M token)) bucket ≡ false
      → AreOneRefusal (ask P M t words token c).answer (ask P N t words token c).answer
  refused_both P M N t words token c bucket caller settings looks full apart =
      let who = caller_of M token in
      let front = front_of M t token c bucket in
      let same : front ≡ front_of N t token c bucket =
      ap (λ w. front_rules t (judged_call c) w M.settings.account bucket) caller ∙ ap (λ s. front_rules t (judged_call c) (caller_of N token) s.account bucket) settings in
      let fails : list_any (λ c. c.fails) front ≡ true =
      any_last (token_rules t (judged_call c).row.tokens (λ g. true) who ++ check P7 _ ∷ check P8 _ ∷ []) (check P9 _) (outside (is_empty (limits who)) (is_among (limits who) bucket) full apart) in
      let first = first_fault_told front fails in
      let in_m = begins P M t words token c bucket looks in
      let in_n = begins P N t words token c bucket looks in (
        first.0,
        (
          told_is M t words (plan_of P M t words token c) (first_fault (refusals_of P M t words token c)) ∙ ap (told (plan_of P M t words token c).answer) (ap first_fault in_m.1 ∙ first.1 in_m.0),
          told_is N t words (plan_of P N t words token c) (first_fault (refusals_of P N t words token c)) ∙ ap (told (plan_of P N t words token c).answer) (ap first_fault in_n.1 ∙ ap (λ front. first_fault (front ++ in_n.0)) (sym same) ∙ first.1 in_n.0),
        ),
      )
