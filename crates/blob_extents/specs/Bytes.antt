-- The bytes of an extent in the area of contents.
use Rattle.std.specs.Prelude.{◌≡◌, ℕ, List, ◌++◌, length, take, drop, replicate}
use Rattle.b2_base.specs.declared.extent.Extent.{Extent}
use Rattle.disk_model.specs.declared.area.Area.TheVariants.{Blobs}
use Rattle.disk_model.specs.declared.area.DiskImage.{DiskImage}
use Rattle.disk_model.specs.State.{DiskState}
use Rattle.disk_model.specs.Steps.{TornIn}

-- these bytes stand at the front of an extent in the image
abbrev pub StandsAt : DiskImage → Extent → List ℕ → Type 0
StandsAt i e m = take (length m) (drop e.at i.blobs) ≡ m

-- a read gives these bytes at the front of an extent
pub record ReadsAt (d : DiskState) (e : Extent) (m : List ℕ) : Type 0 where
  pub image : DiskImage
  pub given : d.reads image
  pub here : StandsAt image e m

-- every crash leaves these bytes in an extent, all of them
pub record IsSafe (d : DiskState) (e : Extent) (m : List ℕ) : Type 0 where
  pub long : length m ≡ e.len
  pub each : (i : DiskImage) → d.may_leave i → StandsAt i e m

-- every byte outside the extent that the area had before stays, and the other areas
abbrev pub StaysOutside : Extent → DiskImage → DiskImage → Type 0
StaysOutside e = TornIn Blobs e.at e.len

-- what an image reads at an extent, with zeros past the end of the area, so that it has the
-- extent's length
abbrev pub read_at : DiskImage → Extent → List ℕ
read_at i e = take e.len (drop e.at i.blobs ++ replicate e.len 0)
