-- Which version of a name counts. A start never does.
use Rattle.std.specs.Prelude.{ℕ, not, ◌&&◌, List, Option, bytes_eq, find}
use Rattle.b2_types.specs.declared.version.VersionOf.{VersionOf}
use Rattle.b2_model.specs.Kinds.{is_start}
use Rattle.b2_model.specs.State.{State}
use Rattle.b2_model.specs.Rows.{rows}

-- the first row of the name that is no start
abbrev pub current_in : {C : Type 0} → List (VersionOf C) → List ℕ → Option (VersionOf C)
current_in versions name = find (λ v. bytes_eq v.name name && not (is_start v.action)) versions

abbrev pub current : {C : Type 0} → State C → ℕ → List ℕ → Option (VersionOf C)
current M bucket name = current_in (rows M bucket) name
