-- Rules with a fault are none that a bucket may have.
use Rattle.std.proofs.Common.{◌≡◌, ℕ, ◌+◌, ◌<◌, Bool, true, false, not, cond, ◌&&◌, ◌||◌, List, [], ◌∷◌, length, Option, Some, None, nat_le, nat_lt, refl, ap, arith}
use Rattle.std.specs.Prelude.{option_map, position, sum_by}
use Rattle.std.specs.Option.{option_or}
use Rattle.std.specs.List.{list_all, list_any, position_or_len}
use Rattle.std.proofs.lemmas.Bool.{and_left, and_right}
use Rattle.std.proofs.lemmas.Bool.Decides.{nat_tests}
use Rattle.b2_types.specs.declared.bucket.Rule.{Rule}
use Rattle.b2_types.specs.LifecycleRules.{has_days, overlap, are_apart, are_rules}
use Rattle.lifecycle_pass.specs.declared.rules.RuleFault.{RuleFault}
use Rattle.lifecycle_pass.specs.declared.rules.RuleFault.TheVariants.{TooMany, Days, Size, Overlap}
use Rattle.lifecycle_pass.specs.Rules.{IsRuleFault, first_overlap}

found_within : {X : Type 0} (p : X → Bool) (xs : List X) (i : ℕ) → position p xs ≡ Some i → position_or_len p xs < length xs
found_within p xs i is = by_case (nat_lt (position_or_len p xs) (length xs)) refl is
  where
    by_case : (b : Bool) → nat_lt (position_or_len p xs) (length xs) ≡ b → cond b (Some (position_or_len p xs)) None ≡ Some i → position_or_len p xs < length xs
    by_case true test some = grind (arith, nat_tests)
    by_case false test some = absurd (cc)

one_fails : {X : Type 0} (p : X → Bool) (xs : List X) → position_or_len (λ x. not (p x)) xs < length xs → list_all p xs ≡ false
one_fails p [] lt = absurd (omega (arith, lt))
one_fails p (x ∷ xs) lt = by_case (one_fails p xs) (p x) lt
  where
    by_case : (position_or_len (λ x. not (p x)) xs < length xs → list_all p xs ≡ false)
        → (b : Bool) → cond (not (not b)) (1 + position_or_len (λ x. not (p x)) xs) 0 < length (x ∷ xs) → (b && list_all p xs) ≡ false
    by_case rest true lt = rest (omega (arith, lt))
    by_case rest false lt = refl

one_passes : {X : Type 0} (p : X → Bool) (xs : List X) → position_or_len p xs < length xs → list_any p xs ≡ true
one_passes p [] lt = absurd (omega (arith, lt))
one_passes p (x ∷ xs) lt = by_case (one_passes p xs) (p x) lt
  where
    by_case : (position_or_len p xs < length xs → list_any p xs ≡ true)
        → (b : Bool) → cond (not b) (1 + position_or_len p xs) 0 < length (x ∷ xs) → (b || list_any p xs) ≡ true
    by_case rest true lt = refl
    by_case rest false lt = rest (omega (arith, lt))

abbrev here : Option ℕ → Option (ℕ × ℕ)
here o = option_map (λ j. (0, j + 1)) o

abbrev moved : Option (ℕ × ℕ) → Option (ℕ × ℕ)
moved o = option_map (λ p. (p.0 + 1, p.1 + 1)) o

two_overlap : (rules : List Rule) (p : ℕ × ℕ) → first_overlap rules ≡ Some p → are_apart rules ≡ false
two_overlap [] p is = absurd (cc)
two_overlap (r ∷ rs) p is = by_case (two_overlap rs) (position (overlap r) rs) (first_overlap rs) refl refl is
  where
    by_case : ((q : ℕ × ℕ) → first_overlap rs ≡ Some q → are_apart rs ≡ false) → (o : Option ℕ) (later : Option (ℕ × ℕ)) → position (overlap r) rs ≡ o → first_overlap rs ≡ later → option_or (here o) (moved later) ≡ Some p → are_apart (r ∷ rs) ≡ false
    by_case more (Some j) later first rest is = and_left (not (list_any (overlap r) rs)) (are_apart rs) (ap not (one_passes (overlap r) rs (found_within (overlap r) rs j first)))
    by_case more None (Some q) first rest is = and_right (not (list_any (overlap r) rs)) (are_apart rs) (more q rest)
    by_case more None None first rest is = absurd (cc)

-- the tests of rules, one after the other
abbrev few : List Rule → Bool
few rules = nat_le (length rules) 100

abbrev short : List Rule → Bool
short rules = nat_le (sum_by (λ r. length r.prefix) rules) 32768

pub no_rules : (rules : List Rule) (f : RuleFault) → IsRuleFault rules f → are_rules rules ≡ false
no_rules rules TooMany many =
    let not_few : few rules ≡ false = grind (arith, nat_tests, many) in
    and_left (few rules && list_all has_days rules && short rules) (are_apart rules)
    (and_left (few rules && list_all has_days rules) (short rules) (and_left (few rules) (list_all has_days rules) not_few))
no_rules rules (Days i) fault =
    and_left (few rules && list_all has_days rules && short rules) (are_apart rules)
    (and_left (few rules && list_all has_days rules) (short rules)
    (and_right (few rules) (list_all has_days rules) (one_fails has_days rules (found_within (λ r. not (has_days r)) rules i fault.1))))
no_rules rules Size fault =
    let long = fault.2 in
    let not_short : short rules ≡ false = grind (arith, nat_tests, long) in
    and_left (few rules && list_all has_days rules && short rules) (are_apart rules) (and_right (few rules && list_all has_days rules) (short rules) not_short)
no_rules rules (Overlap i j) fault = and_right (few rules && list_all has_days rules && short rules) (are_apart rules) (two_overlap rules (i, j) fault.3)
