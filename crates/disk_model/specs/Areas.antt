-- Areas in memory as an image.
use Rattle.disk_model.specs.declared.area.DiskImage.{DiskImage}
use Rattle.disk_model.specs.declared.areas.Areas.{Areas}

abbrev pub image_in : Areas → DiskImage
image_in a = record { log0 = a.log0.items; log1 = a.log1.items; blobs = a.blobs.items }
