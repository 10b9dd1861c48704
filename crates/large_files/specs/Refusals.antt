-- The faults of refusals.
use Rattle.rule_table.specs.declared.fault.FaultKind.TheVariants as kind
use Rattle.b2_types.specs.declared.fault.Fault.{Fault}
use Rattle.b2_types.specs.Fault.{plain, with_number}
use Rattle.large_files.specs.declared.refusal.NotLarge.{NotLarge}
use Rattle.large_files.specs.declared.refusal.PartRefusal.{PartRefusal}
use Rattle.large_files.specs.declared.refusal.PartRefusal.TheVariants as part
use Rattle.large_files.specs.declared.refusal.FinishFault.{FinishFault}
use Rattle.large_files.specs.declared.refusal.FinishFault.TheVariants as finish

abbrev pub large_fault : NotLarge → Fault
large_fault refusal = plain kind.NotLarge

abbrev pub part_fault : PartRefusal → Fault
part_fault part.NotLarge = plain kind.NotLarge
part_fault part.BadDigest = plain kind.BadDigest

abbrev pub finish_fault : FinishFault → Fault
finish_fault finish.NotLarge = plain kind.NotLarge
finish_fault finish.NoParts = plain kind.NoParts
finish_fault (finish.Gap number) = with_number kind.Gap number
finish_fault (finish.Count number) = with_number kind.Count number
finish_fault (finish.Sha number) = with_number kind.Sha number
finish_fault (finish.Small number) = with_number kind.Small number
