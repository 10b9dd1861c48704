-- Which lifecycle rules a bucket may have (the B2 reference, "Lifecycle rules").
use Rattle.std.specs.Prelude.{ℕ, Bool, true, not, ◌&&◌, ◌||◌, nat_le, List, [], ◌∷◌, Option, Some, None, length, sum_by}
use Rattle.std.specs.List.{list_any, list_all}
use Rattle.name_rules.specs.Folder.{begins_with}
use Rattle.b2_types.specs.declared.bucket.Rule.{Rule}

-- 1 to 36,500 days, where days are given
abbrev pub fits_days : Option ℕ → Bool
fits_days None = true
fits_days (Some n) = nat_le 1 n && nat_le n 36500

abbrev pub has_days : Rule → Bool
has_days r = fits_days r.hide_days && fits_days r.delete_days && fits_days r.cancel_days

-- one prefix begins the other
abbrev pub overlap : Rule → Rule → Bool
overlap r s = begins_with r.prefix s.prefix || begins_with s.prefix r.prefix

abbrev pub are_apart : List Rule → Bool
are_apart [] = true
are_apart (r ∷ rs) = not (list_any (overlap r) rs) && are_apart rs

-- at most 100 rules, whose prefixes have at most 32,768 bytes together, and of which at most one holds for
-- a name
abbrev pub are_rules : List Rule → Bool
are_rules rules =
    nat_le (length rules) 100 && list_all has_days rules && nat_le (sum_by (λ r. length r.prefix) rules) 32768 && are_apart rules
