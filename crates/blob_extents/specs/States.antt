-- What the states of a content hold.
use Rattle.std.specs.Prelude.{◌≡◌, ℕ, List, length}
use Rattle.b2_base.specs.declared.extent.Extent.{Extent}
use Rattle.sha1.specs.Sha1.{Holds}
use Rattle.blob_extents.specs.declared.states.Staging.{Staging}
use Rattle.blob_extents.specs.declared.states.Sealed.{Sealed}
use Rattle.blob_extents.specs.declared.states.Spent.{Spent}
use Rattle.blob_extents.specs.declared.states.Kept.{Kept}
use Rattle.blob_extents.specs.declared.states.Pin.{Pin}

abbrev pub staging_extent : Staging → Extent
staging_extent s = s.extent

-- how many bytes came
abbrev pub staging_filled : Staging → ℕ
staging_filled s = s.filled

-- these bytes came
pub record HasHashed (s : Staging) (m : List ℕ) : Type 0 where
  pub count : length m ≡ s.filled
  pub hash : Holds s.hasher m

abbrev pub sealed_extent : Sealed → Extent
sealed_extent s = s.extent

abbrev pub sealed_digest : Sealed → List ℕ
sealed_digest s = s.digest

abbrev pub spent_extent : Spent → Extent
spent_extent s = s.extent

abbrev pub kept_extent : Kept → Extent
kept_extent k = k.extent

abbrev pub pin_extent : Pin → Extent
pin_extent p = p.extent
