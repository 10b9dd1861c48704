-- The room of contents, and what holds extents in it.
use Rattle.std.specs.Prelude.{◌≡◌, ◌<◌, ℕ, List, length}
use Rattle.std.proofs.Common.{get_or}
use Rattle.std.specs.List.{remove}
use Rattle.b2_base.specs.declared.extent.Extent.{Extent}
use Rattle.extent_space.specs.Room.{Room, IsTaken}

pub record Uses : Type 0 where
  pub room : Room
  -- the extent of each pin
  pub pinned : List Extent
  -- extents that go back with their last unpin
  pub released : List Extent

-- the extent is in use, and one of no bytes stands at the front of the area
pub record IsInUse (u : Uses) (e : Extent) : Type 0 where
  pub taken : IsTaken u.room e
  pub none : e.len ≡ 0 → e.at ≡ 0

-- one of the items is taken out
abbrev pub TakesOut : Extent → List Extent → List Extent → Type 0
TakesOut e old new = (i : ℕ) × (i < length old) × (get_or old i e ≡ e) × (new ≡ remove old i)
