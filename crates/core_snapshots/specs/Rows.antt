-- The versions of a state as the rows of an index.
use Rattle.std.specs.Prelude.{◌≡◌, ℕ, List}
use Rattle.b2_types.specs.declared.version.VersionOf.{VersionOf}
use Rattle.b2_model.specs.Rows.{rows}
use Rattle.b2_model.specs.State.{State}
use Rattle.version_index.specs.declared.spot.Spot.{Spot}
use Rattle.version_index.specs.Rows.{AreAscending}
use Rattle.index_rows.specs.OwnRows.{AreNumbered, AreOwn, of_bucket}

-- the rows hold the versions of the state and no others, each at its own spot, in listing order
pub record AreAllRows {C : Type 0} (M : State C) (all : List (Spot × VersionOf C)) : Type 0 where
  pub order : AreAscending all
  pub own : AreOwn all
  pub numbered : AreNumbered M.versions
  pub listed : (bucket : ℕ) → of_bucket bucket all ≡ rows M bucket
