-- What is answered where a plan of the machine is decided: the fault of the first of its rules that fails,
-- or the record of its change.
use Rattle.std.specs.Prelude.{◌≡◌, ℕ, IfOk, Result, Ok, Err, Option, Some, None, if◌then◌else◌}
use Rattle.b2_base.specs.declared.extent.Extent.{Extent}
use Rattle.b2_base.specs.declared.failure.Or.{Or}
use Rattle.b2_base.specs.declared.failure.Or.TheVariants as or
use Rattle.b2_types.specs.declared.fault.Fault.{Fault}
use Rattle.b2_types.specs.declared.record.RecordOf.{RecordOf}
use Rattle.b2_model.specs.Checks.{first_fault}
use Rattle.b2_model.specs.State.{State}
use Rattle.b2_model.specs.Plan.{Plan, no_version}

-- the bytes of a content that stands at an extent
abbrev pub extent_len : Extent → ℕ
extent_len e = e.len

-- the number of the next version, where one is left
abbrev pub next_number : {C : Type 0} → State C → Option ℕ
next_number M = if (no_version M).fails then None else Some M.next_version

-- the fault of an answer: none where there is no refusal
abbrev pub refused : {T F : Type 0} → (F → Fault) → Result T F → Option Fault
refused fault (Ok x) = None
refused fault (Err f) = Some (fault f)

-- memory is wanted only where no rule fails
abbrev pub fault_told : {F : Type 0} → (F → Fault) → Or F → Option Fault
fault_told fault or.Memory = None
fault_told fault (or.Fault f) = Some (fault f)

abbrev pub told : {T F : Type 0} → (F → Fault) → Result T (Or F) → Option Fault
told fault (Ok x) = None
told fault (Err e) = fault_told fault e

-- the record is that of the plan's change
abbrev pub IsRecordOf : ℕ → Plan Extent → RecordOf Extent → Type 0
IsRecordOf t p r = (r.at ≡ t) × (Some r.change ≡ p.change)

-- the answer is the fault of the first rule of the plan that fails, or the record of its change
abbrev pub Decides : {F : Type 0} → (F → Fault) → ℕ → Plan Extent → Result (RecordOf Extent) F → Type 0
Decides fault t p result = (refused fault result ≡ first_fault p.own) × IfOk result (IsRecordOf t p)

-- the same, where memory may be wanted
abbrev pub DecidesOr : {F : Type 0} → (F → Fault) → ℕ → Plan Extent → Result (RecordOf Extent) (Or F) → Type 0
DecidesOr fault t p result = (told fault result ≡ first_fault p.own) × IfOk result (IsRecordOf t p)
