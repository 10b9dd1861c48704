-- What a call or an upload names, read from its fields. Which of these the policy judges is said by the
-- table of what each call needs and names.
use Rattle.std.specs.Prelude.{⊤, ℕ, List, [], ◌∷◌, Option, Some, None, unwrap_or, map}
use Rattle.std.specs.List.{flat_map}
use Rattle.b2_types.specs.declared.call.Call.{Call}
use Rattle.b2_types.specs.declared.call.Call.TheVariants as call
use Rattle.b2_types.specs.declared.upload.UploadCall.{UploadCall}
use Rattle.b2_types.specs.declared.upload.UploadCall.TheVariants as upload
use Rattle.b2_types.specs.declared.need_table.Thing.{Thing}
use Rattle.b2_types.specs.declared.need_table.Thing.TheVariants as thing

-- which bucket is named
pub data Place : Type 0 where
  -- that of this number
  of_number : ℕ → Place
  -- the filters of a listing, a number and a name
  filtered : Option ℕ → Option (List ℕ) → Place
  -- that of this name in a path
  by_name : List ℕ → Place

-- the fields that name something
pub record Named : Type 0 where
  pub account : Option (List ℕ)
  pub bucket : Option ℕ
  -- the buckets of a list or a filter
  pub some_bucket : Option (List Place)
  pub path_bucket : Option (List ℕ)
  -- the numbers of the bucket and the version
  pub file : Option (ℕ × ℕ)
  -- those of the source of a copy
  pub source : Option (ℕ × ℕ)
  -- a name
  pub name : Option (List ℕ)
  pub prefix : Option (List ℕ)

abbrev pub nothing : Named
nothing = record {
  account = None;
  bucket = None;
  some_bucket = None;
  path_bucket = None;
  file = None;
  source = None;
  name = None;
  prefix = None;
}

-- a call on an account
abbrev pub on_account : List ℕ → Named
on_account account = record nothing { account = Some account }

-- a call on a bucket
abbrev pub in_bucket : ℕ → Named
in_bucket bucket = record nothing { bucket = Some bucket }

-- a call on a name in a bucket
abbrev pub on_name : ℕ → List ℕ → Named
on_name bucket name = record (in_bucket bucket) { name = Some name }

-- a call on the names with a prefix in a bucket
abbrev pub with_prefix : ℕ → Option (List ℕ) → Named
with_prefix bucket prefix = record (in_bucket bucket) { prefix = Some (unwrap_or prefix []) }

-- a call on a file
abbrev pub on_file : ℕ → ℕ → Named
on_file bucket file = record nothing { file = Some (bucket, file) }

abbrev pub fields_of : Call → Named
fields_of (call.CreateBucket c) = on_account c.account
fields_of (call.UpdateBucket c) = record (on_account c.account) { bucket = Some c.bucket }
fields_of (call.DeleteBucket c) = record (on_account c.account) { bucket = Some c.bucket }
fields_of (call.ListBuckets c) = record (on_account c.account) { some_bucket = Some (filtered c.bucket c.name ∷ []) }
fields_of (call.CreateKey c) = record (on_account c.account) { some_bucket = Some (map of_number (unwrap_or c.buckets [])) }
fields_of (call.ListKeys c) = on_account c.account
fields_of (call.GetUploadUrl c) = in_bucket c.bucket
fields_of (call.StartLargeFile c) = on_name c.bucket c.name
fields_of (call.GetUploadPartUrl c) = on_file c.bucket c.file
fields_of (call.ListParts c) = on_file c.bucket c.file
fields_of (call.FinishLargeFile c) = on_file c.bucket c.file
fields_of (call.CancelLargeFile c) = on_file c.bucket c.file
fields_of (call.ListUnfinishedLargeFiles c) = with_prefix c.bucket c.prefix
fields_of (call.ListFileNames c) = with_prefix c.bucket c.prefix
fields_of (call.ListFileVersions c) = with_prefix c.bucket c.prefix
fields_of (call.GetFileInfo c) = on_file c.bucket c.file
fields_of (call.HideFile c) = on_name c.bucket c.name
fields_of (call.DeleteFileVersion c) = on_file c.bucket c.file
fields_of (call.GetDownloadAuthorization c) = with_prefix c.bucket (Some c.prefix)
fields_of (call.DownloadFileById c) = on_file c.bucket c.file
fields_of (call.DownloadFileByName c) = record nothing { path_bucket = Some c.bucket; name = Some c.name }
fields_of (call.UpdateFileRetention c) = on_file c.bucket c.file
fields_of (call.UpdateFileLegalHold c) = on_file c.bucket c.file
fields_of (call.CopyFile c) = record (on_name (unwrap_or c.bucket c.source.bucket) c.name) { source = Some (c.source.bucket, c.source.num) }
fields_of (call.CopyPart c) = record (on_file c.bucket c.file) { source = Some (c.source.bucket, c.source.num) }
fields_of other = nothing

abbrev pub upload_fields : UploadCall → Named
upload_fields (upload.File u) = on_name u.bucket u.name
upload_fields (upload.Part u) = on_file u.bucket u.file
upload_fields (upload.Bad c) = nothing

-- the buckets of the things
abbrev pub bucket_of_file : Option (ℕ × ℕ) → List Place
bucket_of_file None = []
bucket_of_file (Some file) = of_number file.0 ∷ []

abbrev pub place_by : {X : Type 0} → (X → Place) → Option X → List Place
place_by place None = []
place_by place (Some x) = place x ∷ []

abbrev pub places_at : Named → Thing → List Place
places_at n thing.Account = []
places_at n thing.Bucket = place_by of_number n.bucket
places_at n thing.SomeBucket = unwrap_or n.some_bucket []
places_at n thing.PathBucket = place_by by_name n.path_bucket
places_at n thing.File = place_by (λ file. of_number file.0) n.file
places_at n thing.Source = place_by (λ file. of_number file.0) n.source
places_at n thing.Name = []
places_at n thing.Prefix = []

-- the buckets that are named, in the order of the row
abbrev pub places : List Thing → Named → List Place
places things n = flat_map (places_at n) things

-- a call whose fields are in order
abbrev pub IsInForm : Call → Type 0
IsInForm (call.Bad c) = ⊥
IsInForm other = ⊤
