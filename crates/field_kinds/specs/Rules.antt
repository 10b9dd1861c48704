-- Lifecycle rules and default retentions in fields (the B2 reference, "Lifecycle rules" and "Object Lock").
use Rattle.std.specs.Prelude.{ℕ, List, [], ◌∷◌, Bool, true, not, ◌&&◌, ◌||◌, nat_le, nat_eq, length, sum_by, codes, Option, Some, None, option_and_then, option_map, if◌then◌else◌, bytes_eq, Result, Ok, Err}
use Rattle.std.specs.List.{list_any, starts_with}
use Rattle.serde_json.specs.Data.{Data}
use Rattle.serde_json.specs.Find.{as_str}
use Rattle.json_shape.specs.Fields.{field, number_within, object_alone}
use Rattle.b2_types.specs.declared.fault.Fault.{Fault}
use Rattle.b2_types.specs.declared.bucket.DefaultRetention.{DefaultRetention}
use Rattle.b2_types.specs.declared.bucket.Rule.{Rule}
use Rattle.b2_types.specs.LifecycleRules.{are_apart}
use Rattle.b2_types.specs.declared.kinds.Mode.{Mode}
use Rattle.b2_types.specs.declared.kinds.Period.{Period}
use Rattle.b2_types.specs.declared.kinds.Period.TheVariants as unit
use Rattle.field_kinds.specs.Reader.{Reader, fields_of, ◌with◌, needed, optional}
use Rattle.field_kinds.specs.Kinds.{text, list_of, mode_or_none}

-- 1 to 36,500 days
abbrev pub days : Data → Option ℕ
days = number_within 1 36500

abbrev pub rule_fields : Reader Rule
rule_fields = fields_of (λ delete cancel hide prefix. record { prefix = prefix; hide_days = hide; delete_days = delete; cancel_days = cancel })
    with optional (codes "daysFromHidingToDeleting") days
    with optional (codes "daysFromStartingToCancelingUnfinishedLargeFiles") days
    with optional (codes "daysFromUploadingToHiding") days
    with needed (codes "fileNamePrefix") text

abbrev pub if_read : {X : Type 0} → Result X Fault → Option X
if_read (Ok x) = Some x
if_read (Err f) = None

abbrev pub rule : Data → Option Rule
rule d = if_read (rule_fields d)

abbrev pub prefix_bytes : List Rule → ℕ
prefix_bytes rules = sum_by (λ r. length r.prefix) rules

-- The version machine's rule for the rules of a bucket, but that the days of each are in their range, which the
-- fields above have.
-- at most 100 rules, whose prefixes have at most 32,768 bytes together, and of which at most one holds for a
-- name
abbrev pub are_rules : List Rule → Bool
are_rules rules = (nat_le (length rules) 100 && nat_le (prefix_bytes rules) 32768) && are_apart rules

abbrev pub if_rules : List Rule → Option (List Rule)
if_rules rules = if are_rules rules then Some rules else None

abbrev pub rules : Data → Option (List Rule)
rules d = option_and_then if_rules (list_of rule d)

abbrev pub period_of : Data → List ℕ → Option Period
period_of d name =
    if bytes_eq name (codes "days") then option_map unit.Days (number_within 1 36500 (field (codes "duration") d))
    else if bytes_eq name (codes "years") then option_map unit.Years (number_within 1 100 (field (codes "duration") d))
    else None

abbrev pub period : Data → Option Period
period d = option_and_then (period_of d) (as_str (field (codes "unit") d))

abbrev pub lasting : Data → Option Mode → Option (Option DefaultRetention)
lasting d None = Some None
lasting d (Some mode) = option_map (λ p. Some (record { mode = mode; period = p })) (period (field (codes "period") d))

-- a mode, and where it is one the period for which it holds
abbrev pub default_retention : Data → Option (Option DefaultRetention)
default_retention d = option_and_then (λ d. option_and_then (lasting d) (mode_or_none (field (codes "mode") d))) (object_alone d)
