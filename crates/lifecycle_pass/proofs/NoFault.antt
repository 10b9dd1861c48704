-- Rules without a fault.
use Rattle.std.proofs.Common.{◌≡◌, ℕ, ◌+◌, ◌≤◌, Bool, true, false, not, cond, ◌&&◌, ◌||◌, List, [], ◌∷◌, length, Option, Some, None, refl, arith}
use Rattle.std.specs.Prelude.{IsTrue, option_map, position, sum_by, nat_le, nat_lt}
use Rattle.std.specs.Option.{option_or}
use Rattle.std.specs.List.{list_all, list_any, position_or_len}
use Rattle.std.proofs.lemmas.Bool.Decides.{nat_tests}
use Rattle.b2_types.specs.declared.bucket.Rule.{Rule}
use Rattle.b2_types.specs.LifecycleRules.{has_days, overlap, are_apart, are_rules}
use Rattle.lifecycle_pass.specs.Rules.{first_overlap}

none_passes : {X : Type 0} (p : X → Bool) (xs : List X) → position p xs ≡ None → length xs ≤ position_or_len p xs
none_passes p xs none = by_case (nat_lt (position_or_len p xs) (length xs)) refl none
  where
    by_case : (b : Bool) → nat_lt (position_or_len p xs) (length xs) ≡ b → cond b (Some (position_or_len p xs)) None ≡ None → length xs ≤ position_or_len p xs
    by_case true test none = absurd (cc)
    by_case false test none = grind (arith, nat_tests)

all_pass : {X : Type 0} (p : X → Bool) (xs : List X) → length xs ≤ position_or_len (λ x. not (p x)) xs → list_all p xs ≡ true
all_pass p [] le = refl
all_pass p (x ∷ xs) le = by_case (all_pass p xs) (p x) le
  where
    by_case : (length xs ≤ position_or_len (λ x. not (p x)) xs → list_all p xs ≡ true)
        → (b : Bool) → length (x ∷ xs) ≤ cond (not (not b)) (1 + position_or_len (λ x. not (p x)) xs) 0 → (b && list_all p xs) ≡ true
    by_case rest true le = rest (omega (arith, le))
    by_case rest false le = absurd (omega (arith, le))

not_any : {X : Type 0} (p : X → Bool) (xs : List X) → length xs ≤ position_or_len p xs → list_any p xs ≡ false
not_any p [] le = refl
not_any p (x ∷ xs) le = by_case (not_any p xs) (p x) le
  where
    by_case : (length xs ≤ position_or_len p xs → list_any p xs ≡ false)
        → (b : Bool) → length (x ∷ xs) ≤ cond (not b) (1 + position_or_len p xs) 0 → (b || list_any p xs) ≡ false
    by_case rest true le = absurd (omega (arith, le))
    by_case rest false le = rest (omega (arith, le))

-- all rules have days where none has not
pub have_days : (rules : List Rule) → position (λ r. not (has_days r)) rules ≡ None → IsTrue (list_all has_days rules)
have_days rules none = all_pass has_days rules (none_passes (λ r. not (has_days r)) rules none)

abbrev here : Option ℕ → Option (ℕ × ℕ)
here o = option_map (λ j. (0, j + 1)) o

abbrev moved : Option (ℕ × ℕ) → Option (ℕ × ℕ)
moved o = option_map (λ p. (p.0 + 1, p.1 + 1)) o

-- no two overlap where there are no first two
pub stand_apart : (rules : List Rule) → first_overlap rules ≡ None → IsTrue (are_apart rules)
stand_apart [] none = refl
stand_apart (r ∷ rs) none = by_case (stand_apart rs) (position (overlap r) rs) (first_overlap rs) refl refl none
  where
    by_case : (first_overlap rs ≡ None → IsTrue (are_apart rs)) → (o : Option ℕ) (later : Option (ℕ × ℕ)) → position (overlap r) rs ≡ o → first_overlap rs ≡ later
        → option_or (here o) (moved later) ≡ None → IsTrue (are_apart (r ∷ rs))
    by_case more (Some j) later is rest none = absurd (cc)
    by_case more None (Some p) is rest none = absurd (cc)
    by_case more None None is rest none = rw (not_any (overlap r) rs (none_passes (overlap r) rs is)) (more rest)

pub rules_from : (rules : List Rule) → length rules ≤ 100 → IsTrue (list_all has_days rules) → sum_by (λ r. length r.prefix) rules ≤ 32768 → IsTrue (are_apart rules) → IsTrue (are_rules rules)
rules_from rules few days short apart =
    by_case (nat_le (length rules) 100) (list_all has_days rules) (nat_le (sum_by (λ r. length r.prefix) rules) 32768) (are_apart rules)
    (grind (arith, nat_tests)) days (grind (arith, nat_tests)) apart
  where
    by_case : (a b c d : Bool) → IsTrue a → IsTrue b → IsTrue c → IsTrue d → IsTrue (a && b && c && d)
    by_case true true true true ta tb tc td = refl
    by_case true true true false ta tb tc td = td
    by_case true true false d ta tb tc td = tc
    by_case true false c d ta tb tc td = tb
    by_case false b c d ta tb tc td = ta
