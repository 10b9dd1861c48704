-- The faults of refusals.
use Rattle.rule_table.specs.declared.fault.FaultKind.TheVariants as kind
use Rattle.b2_types.specs.declared.fault.Fault.{Fault}
use Rattle.b2_types.specs.Fault.{plain}
use Rattle.new_versions.specs.Refusals.{lock_fault}
use Rattle.copy_calls.specs.declared.refusal.CopyRefusal.{CopyRefusal}
use Rattle.copy_calls.specs.declared.refusal.CopyRefusal.TheVariants as refusal

abbrev pub copy_fault : CopyRefusal → Fault
copy_fault refusal.NoFile = plain kind.NoFile
copy_fault refusal.NotLarge = plain kind.NotLarge
copy_fault refusal.Range = plain kind.Range
copy_fault refusal.LongCopy = plain kind.LongCopy
copy_fault (refusal.Lock l) = lock_fault l
copy_fault refusal.Cap = plain kind.Cap
