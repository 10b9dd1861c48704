-- Why rules are refused.
use Rattle.std.specs.Prelude.{◌≡◌, ℕ, ◌+◌, ◌<◌, ◌≤◌, IsTrue, not, List, [], ◌∷◌, Option, None, Some, option_map, length, position, sum_by}
use Rattle.std.specs.List.{list_all}
use Rattle.std.specs.Option.{option_or}
use Rattle.b2_types.specs.declared.bucket.Rule.{Rule}
use Rattle.b2_types.specs.LifecycleRules.{has_days, overlap}
use Rattle.lifecycle_pass.specs.declared.rules.RuleFault.{RuleFault}
use Rattle.lifecycle_pass.specs.declared.rules.RuleFault.TheVariants.{TooMany, Days, Size, Overlap}

-- the places of the first rule that overlaps with a later one, and of the first with which it does
abbrev pub first_overlap : List Rule → Option (ℕ × ℕ)
first_overlap [] = None
first_overlap (r ∷ rs) =
    option_or (option_map (λ j. (0, j + 1)) (position (overlap r) rs)) (option_map (λ p. (p.0 + 1, p.1 + 1)) (first_overlap rs))

-- the first thing that is wrong with the rules, in the order of the variants
abbrev pub IsRuleFault : List Rule → RuleFault → Type 0
IsRuleFault rules TooMany = 100 < length rules
IsRuleFault rules (Days i) = (length rules ≤ 100) × (position (λ r. not (has_days r)) rules ≡ Some i)
IsRuleFault rules Size = (length rules ≤ 100) × IsTrue (list_all has_days rules) × (32768 < sum_by (λ r. length r.prefix) rules)
IsRuleFault rules (Overlap i j) =
    (length rules ≤ 100) × IsTrue (list_all has_days rules) × (sum_by (λ r. length r.prefix) rules ≤ 32768) × (first_overlap rules ≡ Some (i, j))
