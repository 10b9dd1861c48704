-- The versions of a store as the rows of an index.
use Rattle.std.specs.Prelude.{◌≡◌, ◌≢◌, ℕ, ◌<◌, ◌↔◌, ◌==◌, List, filter, fold, map, []}
use Rattle.std.specs.List.{AllPairs, Contains}
use Rattle.b2_types.specs.declared.version.VersionOf.{VersionOf}
use Rattle.b2_model.specs.Lists.{put_by}
use Rattle.version_index.specs.declared.spot.Spot.{Spot}
use Rattle.version_index.specs.Rows.{AreAscending}

module _ {C : Type 0} where
  -- where a version stands
  abbrev pub spot_of : VersionOf C → Spot
  spot_of v = record { bucket = v.bucket; name = v.name; num = v.num }

  -- the version at its own spot
  abbrev pub own_row : VersionOf C → Spot × VersionOf C
  own_row v = (spot_of v, v)

  -- each version stands at its own spot
  abbrev pub AreOwn : List (Spot × VersionOf C) → Type 0
  AreOwn rows = (r : Spot × VersionOf C) → Contains rows r → r.0 ≡ spot_of r.1

  -- the number of each is below those of all later ones
  abbrev pub AreNumbered : List (VersionOf C) → Type 0
  AreNumbered versions = AllPairs (λ v w. v.num < w.num) versions

  -- no two versions of the rows have one number
  abbrev pub HaveOwnNumbers : List (Spot × VersionOf C) → Type 0
  HaveOwnNumbers rows = AllPairs (λ r s. r.1.num ≢ s.1.num) rows

  -- the rows hold these versions and no others, each at its own spot, in order
  pub record AreRowsOf (versions : List (VersionOf C)) (rows : List (Spot × VersionOf C)) : Type 0 where
    pub order : AreAscending rows
    pub own : AreOwn rows
    pub same : (v : VersionOf C) → Contains rows (own_row v) ↔ Contains versions v

  -- the versions of a bucket, in the order of the rows
  abbrev pub of_bucket : ℕ → List (Spot × VersionOf C) → List (VersionOf C)
  of_bucket bucket rows = map (λ r. r.1) (filter (λ r. r.0.bucket == bucket) rows)

  -- the versions of the rows, by number
  abbrev pub by_number : List (Spot × VersionOf C) → List (VersionOf C)
  by_number rows = fold (λ vs r. put_by (λ v. v.num) r.1 vs) [] rows
