-- The first overlap of rules, found rule by rule.
use Rattle.std.proofs.Common.{◌≡◌, ℕ, ◌+◌, ◌<◌, ◌≤◌, List, ◌∷◌, length, drop, get_or, Option, Some, None, refl, sym, ap, ◌∙◌, arith}
use Rattle.std.specs.Prelude.{option_map, position}
use Rattle.std.specs.Option.{option_or}
use Rattle.std.proofs.lemmas.List.{drop_more, drop_all}
use Rattle.b2_types.specs.declared.bucket.Rule.{Rule}
use Rattle.b2_types.specs.LifecycleRules.{overlap}
use Rattle.lifecycle_pass.specs.Rules.{first_overlap}

-- places counted from a later rule on
abbrev pub later : ℕ → Option (ℕ × ℕ) → Option (ℕ × ℕ)
later n o = option_map (λ p. (p.0 + n, p.1 + n)) o

abbrev pair : ℕ → ℕ → Option (ℕ × ℕ)
pair i j = Some (i, j)

later_more : (n : ℕ) (o : Option (ℕ × ℕ)) → later n (option_map (λ p. (p.0 + 1, p.1 + 1)) o) ≡ later (n + 1) o
later_more n None = refl
later_more n (Some p) =
    let i : p.0 + 1 + n ≡ p.0 + (n + 1) = omega arith in
    let j : p.1 + 1 + n ≡ p.1 + (n + 1) = omega arith in
    ap (λ k. pair k (p.1 + 1 + n)) i ∙ ap (pair (p.0 + (n + 1))) j

none_here : (r : Rule) (rs : List Rule) → position (overlap r) rs ≡ None → first_overlap (r ∷ rs) ≡ option_map (λ p. (p.0 + 1, p.1 + 1)) (first_overlap rs)
none_here r rs none = ap (λ o. option_or (option_map (λ j. (0, j + 1)) o) (option_map (λ p. (p.0 + 1, p.1 + 1)) (first_overlap rs))) none

-- a rule that overlaps with no later one
pub passed : (rules : List Rule) (i : ℕ) (r : Rule) → i < length rules → r ≡ get_or rules i r → position (overlap r) (drop (i + 1) rules) ≡ None
    → first_overlap rules ≡ later i (first_overlap (drop i rules)) → first_overlap rules ≡ later (i + 1) (first_overlap (drop (i + 1) rules))
passed rules i r inside is none so_far =
    so_far
    ∙ ap (λ l. later i (first_overlap l)) (drop_more rules i r inside ∙ ap (λ x. x ∷ drop (i + 1) rules) (sym is))
    ∙ ap (later i) (none_here r (drop (i + 1) rules) none)
    ∙ later_more i (first_overlap (drop (i + 1) rules))

-- a rule that overlaps with a later one
pub found : (rules : List Rule) (i j : ℕ) (r : Rule) → i < length rules → r ≡ get_or rules i r → position (overlap r) (drop (i + 1) rules) ≡ Some j
    → first_overlap rules ≡ later i (first_overlap (drop i rules)) → pair i (i + 1 + j) ≡ first_overlap rules
found rules i j r inside is at so_far =
    let rest = drop (i + 1) rules in
    let first : 0 + i ≡ i = omega arith in
    let second : j + 1 + i ≡ i + 1 + j = omega arith in
    sym (
    so_far
    ∙ ap (λ l. later i (first_overlap l)) (drop_more rules i r inside ∙ ap (λ x. x ∷ rest) (sym is))
    ∙ ap (λ o. later i (option_or (option_map (λ j. (0, j + 1)) o) (option_map (λ p. (p.0 + 1, p.1 + 1)) (first_overlap rest)))) at
    ∙ ap (λ k. pair k (j + 1 + i)) first
    ∙ ap (pair i) second
    )

-- all were looked at
pub none_found : (rules : List Rule) (i : ℕ) → length rules ≤ i → first_overlap rules ≡ later i (first_overlap (drop i rules)) → None ≡ first_overlap rules
none_found rules i all so_far = sym (so_far ∙ ap (λ l. later i (first_overlap l)) (drop_all i rules all))
