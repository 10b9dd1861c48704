-- The version that a record makes.
use Rattle.std.specs.Prelude.{ℕ, [], ◌∷◌, Option, Some, None}
use Rattle.b2_base.specs.declared.extent.Extent.{Extent}
use Rattle.b2_types.specs.declared.kinds.Action.TheVariants as action
use Rattle.b2_types.specs.declared.kinds.Mark.TheVariants as mark
use Rattle.b2_types.specs.declared.record.ChangeOf.{ChangeOf}
use Rattle.b2_types.specs.declared.record.ChangeOf.TheVariants as change
use Rattle.b2_types.specs.declared.record.RecordOf.{RecordOf}
use Rattle.b2_types.specs.declared.version.VersionOf.{VersionOf}
use Rattle.b2_model.specs.Version.{marker, no_digest, version_from}

-- that of an upload, of a marker or of a large file that begins
abbrev pub made_at : ℕ → ChangeOf Extent → Option (VersionOf Extent)
made_at t (change.Upload new content m digest) = Some (version_from t action.Upload (content ∷ []) m digest new)
made_at t (change.Hide id name) = Some (marker id.bucket id.num name t)
made_at t (change.Start new) = Some (version_from t action.Start [] mark.Large no_digest new)
made_at t other = None

abbrev pub made_by : RecordOf Extent → Option (VersionOf Extent)
made_by r = made_at r.at r.change
