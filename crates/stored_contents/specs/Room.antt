-- Which extents stand in the area of contents, and by whose right.
use Rattle.std.specs.Prelude.{◌≡◌, ◌==◌, ◌&&◌, ◌⊎◌, ℕ, List, [], ◌++◌, map, filter, length, Option, Some, All, Contains, IfSome}
use Rattle.std.specs.List.{AllPairs, flat_map}
use Rattle.std.specs.Ordering.{nat_cmp}
use Rattle.std.specs.BTreeMap.{get}
use Rattle.b2_base.specs.declared.extent.Extent.{Extent}
use Rattle.extent_space.specs.Room.{Apart, Covers, IsUsed, Room}
use Rattle.blob_extents.specs.States.{staging_extent, pin_extent}
use Rattle.blob_extents.specs.Uses.{IsInUse, Uses}
use Rattle.stored_contents.specs.declared.contents.Contents.{Contents}
use Rattle.stored_contents.specs.declared.incoming.Incoming.{Incoming}
use Rattle.stored_contents.specs.declared.outgoing.Outgoing.{Outgoing}

abbrev pub room_of : Contents → Room
room_of t = t.blobs.room

-- the upload of this number
abbrev pub incoming_at : Contents → ℕ → Option Incoming
incoming_at t c = get nat_cmp t.incoming c

abbrev pub extent_of : Incoming → Extent
extent_of i = staging_extent i.staging

-- the extents that a reader looks at
abbrev pub pins_of : Outgoing → List Extent
pins_of o = map pin_extent o.pins.items

-- how often an extent stands in a list
abbrev pub times : Extent → List Extent → ℕ
times e xs = length (filter (λ x. x.at == e.at && x.len == e.len) xs)

-- the extents of whole contents: those that are owned, and those that go back with their last reader
abbrev pub live : List Extent → Contents → List Extent
live owned t = owned ++ t.blobs.released

-- the extent of an upload is in use, and apart from those of whole contents
pub record IsStaged (u : Uses) (whole : List Extent) (e : Extent) : Type 0 where
  pub in_use : IsInUse u e
  pub apart : All (Apart e) whole

-- the extents of two uploads are apart
abbrev pub AreApart : Option Incoming → Option Incoming → Type 0
AreApart a b = IfSome a (λ i. IfSome b (λ j. Apart (extent_of i) (extent_of j)))

-- the byte is one of these extents
abbrev pub IsIn : List Extent → ℕ → Type 0
IsIn xs b = (e : Extent) × Contains xs e × Covers e b

-- the byte is one of an upload
abbrev pub IsComingIn : Contents → ℕ → Type 0
IsComingIn t b = (c : ℕ) × (i : Incoming) × (incoming_at t c ≡ Some i) × Covers (extent_of i) b

-- These extents are owned. All that stand in the area are in use and apart, and the pins are those of the readers
-- and these loose ones, each of a whole content. No
-- byte is in use but for one of them.
pub record IsRoomWith (t : Contents) (owned loose : List Extent) : Type 0 where
  pub in_use : All (IsInUse t.blobs) (live owned t)
  pub apart : AllPairs Apart (live owned t)
  pub staged : (c : ℕ) → IfSome (incoming_at t c) (λ i. IsStaged t.blobs (live owned t) (extent_of i))
  pub staged_apart : (a b : ℕ) → (a ≡ b → ⊥) → AreApart (incoming_at t a) (incoming_at t b)
  pub no_more : (b : ℕ) → IsUsed t.blobs.room b → IsIn (live owned t) b ⊎ IsComingIn t b
  pub pinned : All (Contains (live owned t)) t.blobs.pinned
  pub pins : (e : Extent) → times e t.blobs.pinned ≡ times e (loose ++ flat_map pins_of t.outgoing.items)

abbrev pub IsRoom : Contents → List Extent → Type 0
IsRoom t owned = IsRoomWith t owned []
