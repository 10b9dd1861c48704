-- Refusals, and what they say to people.
use Rattle.std.specs.Prelude.{◌≡◌, ℕ, List, [], ◌++◌, codes, decimal}
use Rattle.rule_table.specs.declared.fault.FaultKind.{FaultKind}
use Rattle.b2_types.specs.declared.fault.Fault.{Fault}
use Rattle.b2_types.specs.declared.fault.Detail.{Detail}
use Rattle.b2_types.specs.declared.fault.Detail.TheVariants as detail
use Rattle.b2_types.specs.FaultTable.{fault_entry, telling, Telling, NoMore, AWord, ANumber}

-- a fault whose kind says all
abbrev pub plain : FaultKind → Fault
plain kind = record { kind = kind; detail = detail.Nothing }

-- a fault that names a field or a header
abbrev pub with_word : FaultKind → List ℕ → Fault
with_word kind word = record { kind = kind; detail = detail.Word word }

-- a fault that tells a number
abbrev pub with_number : FaultKind → ℕ → Fault
with_number kind number = record { kind = kind; detail = detail.Number number }

-- after the text stand a colon, a space and what is told
abbrev pub told_after : Detail → List ℕ
told_after detail.Nothing = []
told_after (detail.Word word) = codes ": " ++ word
told_after (detail.Number number) = codes ": " ++ decimal number

abbrev pub telling_of : Detail → Telling
telling_of detail.Nothing = NoMore
telling_of (detail.Word word) = AWord
telling_of (detail.Number number) = ANumber

-- the fault tells what the table says that faults of its kind tell
abbrev pub HasItsDetail : Fault → Type 0
HasItsDetail fault = telling_of fault.detail ≡ telling fault.kind

abbrev pub message : Fault → List ℕ
message fault = (fault_entry fault.kind).text ++ told_after fault.detail
