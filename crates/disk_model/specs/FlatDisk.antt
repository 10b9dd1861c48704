-- What the disks in memory hold.
use Rattle.outside_traits.specs.declared.calls.Calls.{Calls}
use Rattle.disk_model.specs.declared.area.DiskImage.{DiskImage}
use Rattle.disk_model.specs.declared.flat.FlatDisk.{FlatDisk}
use Rattle.disk_model.specs.State.{DiskState}
use Rattle.disk_model.specs.Flat.{flat_state}
use Rattle.disk_model.specs.Areas.{image_in}

-- the bytes of a disk that holds bytes alone
abbrev pub flat_image : FlatDisk → DiskImage
flat_image d = image_in d.areas

abbrev pub flat_calls : FlatDisk → Calls
flat_calls d = d.calls

-- what it tells of itself
abbrev pub flat_told : FlatDisk → DiskState
flat_told d = flat_state (flat_image d)
