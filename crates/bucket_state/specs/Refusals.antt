-- Refusals of calls on buckets, as faults.
use Rattle.rule_table.specs.declared.fault.FaultKind.TheVariants as kind
use Rattle.b2_types.specs.declared.fault.Fault.{Fault}
use Rattle.b2_types.specs.Fault.{plain, with_number}
use Rattle.bucket_state.specs.declared.refusal.BucketRefusal.{BucketRefusal}
use Rattle.bucket_state.specs.declared.refusal.BucketRefusal.TheVariants as refusal

abbrev pub bucket_fault : BucketRefusal → Fault
bucket_fault refusal.Duplicate = plain kind.Duplicate
bucket_fault refusal.TooMany = plain kind.TooManyBuckets
bucket_fault (refusal.Conflict revision) = with_number kind.Conflict revision
bucket_fault refusal.LockStays = plain kind.LockStays
bucket_fault refusal.LockOff = plain kind.LockOff
bucket_fault refusal.Cap = plain kind.Cap
bucket_fault refusal.NotEmpty = plain kind.NotEmpty
