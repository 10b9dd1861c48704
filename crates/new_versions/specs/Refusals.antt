-- The faults of refusals.
use Rattle.rule_table.specs.declared.fault.FaultKind.TheVariants as kind
use Rattle.b2_types.specs.declared.fault.Fault.{Fault}
use Rattle.b2_types.specs.Fault.{plain}
use Rattle.new_versions.specs.declared.refusal.LockRefusal.{LockRefusal}
use Rattle.new_versions.specs.declared.refusal.LockRefusal.TheVariants as lock
use Rattle.new_versions.specs.declared.refusal.VersionRefusal.{VersionRefusal}
use Rattle.new_versions.specs.declared.refusal.VersionRefusal.TheVariants as refusal
use Rattle.new_versions.specs.declared.marker.HideRefusal.{HideRefusal}
use Rattle.new_versions.specs.declared.marker.HideRefusal.TheVariants as hide

abbrev pub lock_fault : LockRefusal → Fault
lock_fault lock.LockOff = plain kind.LockOff
lock_fault lock.BadUntil = plain kind.BadUntil

abbrev pub refusal_fault : VersionRefusal → Fault
refusal_fault (refusal.Lock l) = lock_fault l
refusal_fault refusal.BadDigest = plain kind.BadDigest
refusal_fault refusal.Cap = plain kind.Cap

abbrev pub hide_fault : HideRefusal → Fault
hide_fault hide.NoFile = plain kind.NoFile
hide_fault hide.Hidden = plain kind.Hidden
hide_fault hide.Cap = plain kind.Cap
