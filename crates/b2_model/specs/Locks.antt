-- Object Lock (the B2 reference, "Object Lock"): what is protected, and which of its rules fail.
use Rattle.std.specs.Prelude.{ℕ, Bool, false, not, ◌&&◌, ◌||◌, ◌*◌, nat_lt, List, [], ◌∷◌, Option, Some, None, if◌then◌else◌, option_map}
use Rattle.std.specs.Option.{is_some}
use Rattle.rule_table.specs.declared.fault.FaultKind.TheVariants.{P11, P12, P13, P14}
use Rattle.b2_types.specs.declared.kinds.Retention.{Retention}
use Rattle.b2_types.specs.declared.bucket.DefaultRetention.{DefaultRetention}
use Rattle.b2_types.specs.declared.version.VersionOf.{VersionOf}
use Rattle.b2_model.specs.Kinds.{is_upload, is_compliance, is_governance, day, later, period_days}
use Rattle.b2_model.specs.Checks.{Check, check, some_and}

-- a retention is active until its end
abbrev pub is_active : ℕ → Retention → Bool
is_active t r = nat_lt t r.until

-- the retention of an upload that is active
abbrev pub active_retention : {C : Type 0} → ℕ → VersionOf C → Option Retention
active_retention t v = if is_upload v.action then (if some_and (is_active t) v.retention then v.retention else None) else None

abbrev pub is_held : {C : Type 0} → VersionOf C → Bool
is_held v = is_upload v.action && v.hold

abbrev pub is_protected : {C : Type 0} → ℕ → VersionOf C → Bool
is_protected t v = is_held v || is_some (active_retention t v)

-- governance stands in the way of who did not ask to bypass it, and of who may not
abbrev pub governance_rules : Bool → Bool → Bool → List Check
governance_rules governs asked may = check P13 (governs && not asked) ∷ check P14 (governs && asked && not may) ∷ []

-- the rules of a deletion
abbrev pub deletion_rules : {C : Type 0} → ℕ → VersionOf C → Bool → Bool → List Check
deletion_rules t v asked may =
    check P11 (is_held v)
    ∷ check P12 (some_and (λ r. is_compliance r.mode) (active_retention t v))
    ∷ governance_rules (some_and (λ r. is_governance r.mode) (active_retention t v)) asked may

-- compliance gives way to a compliance that ends no earlier alone
abbrev pub keeps_compliance : Retention → Option Retention → Bool
keeps_compliance old None = false
keeps_compliance old (Some new) = is_compliance new.mode && not (nat_lt new.until old.until)

-- governance gives way freely to a retention that ends no earlier
abbrev pub keeps_governance : Retention → Option Retention → Bool
keeps_governance old None = false
keeps_governance old (Some new) = not (nat_lt new.until old.until)

-- the rules of a change from this active retention
abbrev pub retention_rules : Option Retention → Option Retention → Bool → Bool → List Check
retention_rules old new asked may =
    check P12 (some_and (λ r. is_compliance r.mode && not (keeps_compliance r new)) old)
    ∷ governance_rules (some_and (λ r. is_governance r.mode && not (keeps_governance r new)) old) asked may

-- a bucket's default, from the moment of the upload on
abbrev pub from_default : ℕ → DefaultRetention → Retention
from_default t d = record { mode = d.mode; until = later t (period_days d.period * day) }

-- the retention of its own, or the bucket's default
abbrev pub own_or_default : ℕ → Option Retention → Option DefaultRetention → Option Retention
own_or_default t (Some own) d = Some own
own_or_default t None d = option_map (from_default t) d
