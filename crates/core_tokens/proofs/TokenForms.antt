-- What calls that give tokens for uploads and downloads look up.
use Rattle.std.proofs.Common.{ℕ, List, Option, ◌∷◌, [], refl}
use Rattle.b2_base.specs.declared.extent.Extent.{Extent}
use Rattle.rule_table.specs.declared.fault.FaultKind.TheVariants.{NoBucket, NoFile}
use Rattle.b2_types.specs.declared.bucket.Bucket.{Bucket}
use Rattle.b2_types.specs.declared.call.AuthorizeDownload.{AuthorizeDownload}
use Rattle.b2_types.specs.declared.call.FileCall.{FileCall}
use Rattle.b2_types.specs.declared.call.GetUploadUrl.{GetUploadUrl}
use Rattle.b2_types.specs.declared.call.Call.TheVariants as call
use Rattle.b2_types.specs.declared.shown.Shown.TheVariants as shown
use Rattle.b2_types.specs.declared.version.VersionOf.{VersionOf}
use Rattle.b2_model.specs.AskDownloads.{download_grant}
use Rattle.b2_model.specs.AskFiles.{upload_grant, upload_url}
use Rattle.b2_model.specs.AskLarge.{not_large, part_grant, part_url}
use Rattle.b2_model.specs.Plan.{grants, id_of, new_token, no_serial}
use Rattle.b2_model.specs.Policy.{caller_of}
use Rattle.b2_model.specs.Rows.{version_at}
use Rattle.b2_model.specs.State.{State, bucket_at}
use Rattle.core_decisions.proofs.Forms.{Form}

abbrev pub upload_form : (M : State Extent) (t : ℕ) (token : Option (List ℕ)) (c : GetUploadUrl) → Form M t token (call.GetUploadUrl c) Bucket
upload_form M t token c = record {
  absent = NoBucket;
  thing = bucket_at M c.bucket;
  plan = λ copy words b. grants (no_serial M ∷ []) (upload_grant M t words (caller_of M token).key b.num) (shown.UploadUrl (record { bucket = b.num; token = new_token M words; url = upload_url M b.num }));
  quiet = λ copy words b. refl;
  refusals = λ copy words. refl;
  is = λ copy words. refl;
}

abbrev pub part_form : (M : State Extent) (t : ℕ) (token : Option (List ℕ)) (c : FileCall) → Form M t token (call.GetUploadPartUrl c) (VersionOf Extent)
part_form M t token c = record {
  absent = NoFile;
  thing = version_at M c.bucket c.file;
  plan = λ copy words v. grants (not_large v ∷ no_serial M ∷ []) (part_grant M t words (caller_of M token).key v) (shown.PartUrl (record { file = id_of v; token = new_token M words; url = part_url M v }));
  quiet = λ copy words v. refl;
  refusals = λ copy words. refl;
  is = λ copy words. refl;
}

abbrev pub download_form : (M : State Extent) (t : ℕ) (token : Option (List ℕ)) (c : AuthorizeDownload) → Form M t token (call.GetDownloadAuthorization c) Bucket
download_form M t token c = record {
  absent = NoBucket;
  thing = bucket_at M c.bucket;
  plan = λ copy words b. grants (no_serial M ∷ []) (download_grant M t words (caller_of M token).key c) (shown.DownloadToken (record { bucket = b.num; prefix = c.prefix; token = new_token M words }));
  quiet = λ copy words b. refl;
  refusals = λ copy words. refl;
  is = λ copy words. refl;
}
