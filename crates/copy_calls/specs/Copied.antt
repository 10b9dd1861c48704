-- What copies are made of.
use Rattle.std.specs.Prelude.{◌≡◌, ℕ, List, false, unwrap_or}
use Rattle.b2_base.specs.declared.extent.Extent.{Extent}
use Rattle.b2_types.specs.declared.call.CopyFile.{CopyFile}
use Rattle.b2_types.specs.declared.upload.DigestRule.TheVariants as rule
use Rattle.b2_types.specs.declared.upload.FileUpload.{FileUpload}
use Rattle.b2_types.specs.declared.version.VersionOf.{VersionOf}
use Rattle.b2_model.specs.Body.{Body}
use Rattle.b2_model.specs.State.{Pieces}
use Rattle.b2_model.specs.AskCopies.{copied_info, copied_type}
use Rattle.new_versions.specs.Decided.{extent_len}
use Rattle.copy_calls.specs.declared.file.CopiedBytes.{CopiedBytes}

-- contents that stand at extents, where this is what a copy of some bytes makes
abbrev pub extents : (List Extent → ℕ → ℕ → Body Extent) → Pieces Extent
extents copy = record { size = extent_len; copy = copy }

-- these are the bytes of the body
pub record IsBody (bytes : CopiedBytes) (body : Body Extent) : Type 0 where
  pub content : body.content ≡ bytes.content
  pub digest : body.digest ≡ bytes.digest

-- the upload, to this bucket, of so many bytes of the source with this digest
abbrev pub copied_upload : {C : Type 0} → VersionOf C → CopyFile → ℕ → ℕ → List ℕ → FileUpload
copied_upload v c bucket len digest = record {
  bucket = bucket;
  length = len;
  digest = rule.Given digest;
  name = c.name;
  kind = copied_type v c.metadata;
  info = copied_info v c.metadata;
  retention = c.retention;
  hold = unwrap_or c.hold false;
}
