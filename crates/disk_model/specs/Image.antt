-- The bytes of three areas.
use Rattle.std.specs.Prelude.{◌≡◌, ◌≢◌, ℕ, List, Bool, true, false}
use Rattle.disk_model.specs.declared.area.Area.{Area}
use Rattle.disk_model.specs.declared.area.Area.TheVariants.{Log0, Log1, Blobs}
use Rattle.disk_model.specs.declared.area.DiskImage.{DiskImage}

abbrev pub bytes_of : Area → DiskImage → List ℕ
bytes_of Log0 m = m.log0
bytes_of Log1 m = m.log1
bytes_of Blobs m = m.blobs

-- the image with these bytes in this area
abbrev pub put_in : Area → List ℕ → DiskImage → DiskImage
put_in Log0 bytes m = record m { log0 = bytes }
put_in Log1 bytes m = record m { log1 = bytes }
put_in Blobs bytes m = record m { blobs = bytes }

abbrev pub same_area : Area → Area → Bool
same_area Log0 Log0 = true
same_area Log0 Log1 = false
same_area Log0 Blobs = false
same_area Log1 Log0 = false
same_area Log1 Log1 = true
same_area Log1 Blobs = false
same_area Blobs Log0 = false
same_area Blobs Log1 = false
same_area Blobs Blobs = true

-- every area but this one is the same
abbrev pub SameBut : Area → DiskImage → DiskImage → Type 0
SameBut a old new = (b : Area) → b ≢ a → bytes_of b new ≡ bytes_of b old
