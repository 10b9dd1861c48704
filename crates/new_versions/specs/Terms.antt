-- What a version is made of.
use Rattle.std.specs.Prelude.{ℕ, [], unwrap_or}
use Rattle.std.specs.Option.{option_copied}
use Rattle.b2_types.specs.declared.record.NewVersion.{NewVersion}
use Rattle.b2_model.specs.MediaTypes.{resolved_type}
use Rattle.new_versions.specs.declared.terms.VersionTerms.{VersionTerms}

-- the version of this number
abbrev pub version_of : ℕ → VersionTerms → NewVersion
version_of num of = record {
  bucket = of.bucket;
  num = num;
  name = of.name.now;
  kind = resolved_type of.kind.now of.name.now;
  info = unwrap_or (option_copied of.info) [];
  retention = of.retention;
  hold = of.hold;
}
