-- The versions of a store as they are kept: as the rows of an index, with where the version of each number
-- stands, and with the starts of large files in an index of their own.
use Rattle.std.specs.Prelude.{◌≡◌, ◌≤◌, ◌↔◌, ℕ, true, List, if◌then◌else◌, map}
use Rattle.std.specs.List.{Contains}
use Rattle.b2_base.specs.declared.numbers.TheConstants.{LAST_VERSION}
use Rattle.b2_types.specs.declared.version.VersionOf.{VersionOf}
use Rattle.b2_model.specs.Kinds.{is_start}
use Rattle.version_index.specs.declared.spot.Spot.{Spot}
use Rattle.version_index.specs.Rows.{AreAscending, placed}
use Rattle.index_rows.specs.OwnRows.{AreNumbered, AreRowsOf, spot_of}
use Rattle.listing_pages.specs.Unfinished.{start_spot}

module _ {C : Type 0} where
  -- where the version of a number stands
  abbrev pub spot_entry : VersionOf C → ℕ × Spot
  spot_entry v = (v.num, spot_of v)

  -- a start's row, which has its name
  abbrev pub start_entry : VersionOf C → Spot × List ℕ
  start_entry v = (start_spot v.bucket v.num, v.name)

  -- the rows of starts with that of the version, where it is one
  abbrev pub with_start : VersionOf C → List (Spot × List ℕ) → List (Spot × List ℕ)
  with_start v starts = if is_start v.action then placed (start_entry v) starts else starts

  -- the row is that of a start among the versions
  pub record IsStartAmong (versions : List (VersionOf C)) (row : Spot × List ℕ) : Type 0 where
    pub version : VersionOf C
    pub there : Contains versions version
    pub start : is_start version.action ≡ true
    pub row_is : start_entry version ≡ row

  -- the rows are those of the starts among the versions, in order
  pub record AreStartRows (versions : List (VersionOf C)) (starts : List (Spot × List ℕ)) : Type 0 where
    pub order : AreAscending starts
    pub same : (row : Spot × List ℕ) → Contains starts row ↔ IsStartAmong versions row

  -- all three tell of these versions
  pub record AreKept (versions : List (VersionOf C)) (rows : List (Spot × VersionOf C)) (spots : List (ℕ × Spot)) (starts : List (Spot × List ℕ)) : Type 0 where
    pub numbered : AreNumbered versions
    pub in_range : (v : VersionOf C) → Contains versions v → v.num ≤ LAST_VERSION
    pub are_rows : AreRowsOf versions rows
    pub are_spots : spots ≡ map spot_entry versions
    pub are_starts : AreStartRows versions starts
