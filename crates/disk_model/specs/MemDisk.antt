-- What a disk that keeps its past holds.
use Rattle.std.specs.Prelude.{List}
use Rattle.outside_traits.specs.declared.calls.Calls.{Calls}
use Rattle.disk_model.specs.declared.changes.Done.{Done}
use Rattle.disk_model.specs.State.{DiskState}
use Rattle.disk_model.specs.Past.{past_state}
use Rattle.disk_model.specs.declared.memory.MemDisk.{MemDisk}

-- what was done to it, in order
abbrev pub mem_done : MemDisk → List Done
mem_done d = d.done.items

abbrev pub mem_calls : MemDisk → Calls
mem_calls d = d.calls

-- what it tells of itself
abbrev pub mem_state : MemDisk → DiskState
mem_state d = past_state (mem_done d)
