-- Lifecycle rules that are read are such as a bucket may have: their fields keep the days of each in their range.
use Rattle.std.proofs.Common.{◌≡◌, ℕ, Bool, true, false, List, [], ◌∷◌, Option, Some, None, Ok, Err, if◌then◌else◌, refl, subst}
use Rattle.std.specs.Prelude.{Result, IfOk, ◌&&◌, nat_le, length, codes, option_and_then, unwrap_or}
use Rattle.std.specs.List.{list_all}
use Rattle.std.proofs.lemmas.Option.{same_Some}
use Rattle.serde_json.specs.Data.{Data, Items, no_items, item}
use Rattle.serde_json.specs.Find.{as_array, as_number, as_u64}
use Rattle.json_shape.specs.Fields.{field, if_within}
use Rattle.b2_types.specs.declared.bucket.Rule.{Rule}
use Rattle.b2_types.specs.declared.fault.Fault.{Fault}
use Rattle.b2_types.specs.LifecycleRules.{fits_days, has_days, are_apart, are_rules}
use Rattle.field_kinds.specs.Reader.{needed, optional}
use Rattle.field_kinds.specs.Kinds.{text, with_front, each_of, list_of}
use Rattle.field_kinds.specs.Rules.{days, rule_fields, if_read, rule, prefix_bytes, are_rules as are_read_rules, if_rules, rules}
use Rattle.request_laws.proofs.Rows.{Makes, start, any_row, known_row, optional_row}

-- ---- days

within : (low high : ℕ) (o : Option ℕ) (n : ℕ) → option_and_then (if_within low high) o ≡ Some n → (nat_le low n && nat_le n high) ≡ true
within low high None n is = absurd (cc is)
within low high (Some m) n is = by (nat_le low m && nat_le m high) refl is
  where
    by : (b : Bool) → (nat_le low m && nat_le m high) ≡ b → (if b then Some m else None) ≡ Some n → (nat_le low n && nat_le n high) ≡ true
    by true fits same = subst (λ k. (nat_le low k && nat_le k high) ≡ true) (same_Some m n same) fits
    by false fits same = absurd (cc same)

abbrev FitDays : Option ℕ → Type 0
FitDays o = fits_days o ≡ true

days_fit : (key : List ℕ) (d : Data) → Makes FitDays (optional key days d)
days_fit key d = optional_row key days FitDays d refl (λ n is. within 1 36500 (option_and_then as_u64 (as_number (field key d))) n is)

-- ---- rules

abbrev HasDays : Rule → Type 0
HasDays r = has_days r ≡ true

all_three : (delete cancel hide : Option ℕ) → FitDays delete → FitDays cancel → FitDays hide → (fits_days hide && fits_days delete && fits_days cancel) ≡ true
all_three delete cancel hide first second third = rw (third, first, second) refl

rule_has_days : (d : Data) → Makes HasDays (rule_fields d)
rule_has_days d =
    any_row (needed (codes "fileNamePrefix") text d)
    (known_row (days_fit (codes "daysFromUploadingToHiding") d)
    (known_row (days_fit (codes "daysFromStartingToCancelingUnfinishedLargeFiles") d)
    (known_row (days_fit (codes "daysFromHidingToDeleting") d)
    (start _ (λ delete first cancel second hide third prefix. all_three delete cancel hide first second third)))))

read_has : (o : Result Rule Fault) (r : Rule) → if_read o ≡ Some r → IfOk o HasDays → HasDays r
read_has (Ok q) r is has = subst HasDays (same_Some q r is) has
read_has (Err f) r is has = absurd (cc is)

one_more : (r : Rule) (o : Option (List Rule)) (rs : List Rule) → HasDays r → ((qs : List Rule) → o ≡ Some qs → list_all has_days qs ≡ true) → with_front (r ∷ []) o ≡ Some rs → list_all has_days rs ≡ true
one_more r None rs has others is = absurd (cc is)
one_more r (Some qs) rs has others is = subst (λ ps. list_all has_days ps ≡ true) (same_Some (r ∷ qs) rs is) (rw (has, others qs refl) refl)

item_has : (d : Data) (ds : Items) → ((qs : List Rule) → each_of rule ds ≡ Some qs → list_all has_days qs ≡ true) → (rs : List Rule) (o : Option Rule) → rule d ≡ o
    → option_and_then (λ r. with_front (r ∷ []) (each_of rule ds)) o ≡ Some rs → list_all has_days rs ≡ true
item_has d ds others rs None read is = absurd (cc is)
item_has d ds others rs (Some r) read is = one_more r (each_of rule ds) rs (read_has (rule_fields d) r read (rule_has_days d).is) others is

all_have : (ds : Items) (rs : List Rule) → each_of rule ds ≡ Some rs → list_all has_days rs ≡ true
all_have no_items rs is = subst (λ ps. list_all has_days ps ≡ true) (same_Some [] rs is) refl
all_have (item d ds) rs is = item_has d ds (λ qs at. all_have ds qs at) rs (rule d) refl is

list_has : (o : Option Items) (rs : List Rule) → option_and_then (each_of rule) o ≡ Some rs → list_all has_days rs ≡ true
list_has None rs is = absurd (cc is)
list_has (Some ds) rs is = all_have ds rs is

-- ---- the rules of a bucket

both : (few some short apart : Bool) → ((few && short) && apart) ≡ true → some ≡ true → (few && some && short && apart) ≡ true
both true true true true read days = refl
both false some short apart read days = absurd (cc read)
both true false short apart read days = absurd (cc days)
both true true false apart read days = absurd (cc read)
both true true true false read days = absurd (cc read)

rules_by : (o : Option (List Rule)) (rs : List Rule) → ((qs : List Rule) → o ≡ Some qs → list_all has_days qs ≡ true) → option_and_then if_rules o ≡ Some rs → are_rules rs ≡ true
rules_by None rs have is = absurd (cc is)
rules_by (Some qs) rs have is = by (are_read_rules qs) refl is
  where
    by : (b : Bool) → are_read_rules qs ≡ b → (if b then Some qs else None) ≡ Some rs → are_rules rs ≡ true
    by true read same =
        subst (λ ps. are_rules ps ≡ true) (same_Some qs rs same)
        (both (nat_le (length qs) 100) (list_all has_days qs) (nat_le (prefix_bytes qs) 32768) (are_apart qs) read (have qs refl))
    by false read same = absurd (cc same)

read_rules : (d : Data) (rs : List Rule) → rules d ≡ Some rs → are_rules rs ≡ true
read_rules d rs is = rules_by (list_of rule d) rs (λ qs at. list_has (as_array d) qs at) is

-- the rules that a call gives, or none
abbrev pub FitRules : Option (List Rule) → Type 0
FitRules o = are_rules (unwrap_or o []) ≡ true

pub rules_fit : (key : List ℕ) (d : Data) → Makes FitRules (optional key rules d)
rules_fit key d = optional_row key rules FitRules d refl (λ rs is. read_rules (field key d) rs is)
