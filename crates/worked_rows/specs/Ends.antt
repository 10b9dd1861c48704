-- What is judged when an upload begins, and again when it ends.
use Rattle.std.specs.Prelude.{ℕ, List, [], ◌∷◌, Option, Some, None, codes, length}
use Rattle.b2_types.specs.declared.kinds.TokenKind.TheVariants as token
use Rattle.b2_types.specs.declared.kinds.Mode.TheVariants.{Governance}
use Rattle.b2_types.specs.declared.kinds.Retention.{Retention}
use Rattle.b2_types.specs.declared.kinds.Period.TheVariants.{Days}
use Rattle.b2_types.specs.declared.fault.Fault.{Fault}
use Rattle.b2_types.specs.declared.key.Flight.{Flight}
use Rattle.b2_types.specs.declared.upload.DigestRule.TheVariants as rule
use Rattle.b2_types.specs.declared.upload.FileUpload.{FileUpload}
use Rattle.b2_types.specs.declared.upload.PartUpload.{PartUpload}
use Rattle.b2_types.specs.declared.upload.UploadCall.{UploadCall}
use Rattle.b2_types.specs.declared.upload.UploadCall.TheVariants as upload
use Rattle.b2_model.specs.State.{State}
use Rattle.b2_model.specs.Ask.{Outcome}
use Rattle.b2_model.specs.UploadSteps.{begin, end}
use Rattle.worked_rows.specs.Store.{Bytes, retentions_in, words, photos_1, lock_bucket, with_bucket, with_versions, upload_at, start_at}
use Rattle.worked_rows.specs.Uploads.{ready, url_token, url_grant, given_abc, body_abc, flight}
use Rattle.worked_rows.specs.Keys.{key_store}

abbrev pub begin_refused : State Bytes → List ℕ → UploadCall → Option Fault
begin_refused M token u = (begin M 1000 1 (Some token) u).fault

-- a file on the URL
abbrev pub file_refused : State Bytes → FileUpload → Option Fault
file_refused M u = begin_refused M url_token (upload.File u)

abbrev pub part_upload : ℕ → PartUpload
part_upload file = record { bucket = 1; file = file; length = 3; digest = rule.NotVerified; number = 2 }

-- a part of a file of this number
abbrev pub part_refused : State Bytes → List ℕ → ℕ → Option Fault
part_refused M token file = begin_refused M token (upload.Part (part_upload file))

abbrev pub bucket_gone : State Bytes
bucket_gone = record ready { buckets = [] }

-- the upload `abc` in a bucket, with a retention until the moment
abbrev pub kept_until : ℕ → FileUpload
kept_until t = record given_abc { retention = Some (record { mode = Governance; until = t }) }

abbrev pub lockable : State Bytes
lockable = record (with_bucket lock_bucket) { grants = url_grant ∷ [] }

-- an upload that began in one state ends in another
abbrev pub ends_in : State Bytes → FileUpload → Outcome Bytes
ends_in M u = end length (record M { flights = flight u ∷ [] }) 2000 (flight u) (body_abc None) words

-- a default of ten days
abbrev pub by_default : State Bytes
by_default = record lockable { buckets = record lock_bucket { default = Some (record { mode = Governance; period = Days 10 }) } ∷ [] }

abbrev pub default_at_end : FileUpload → List (Option Retention)
default_at_end u = retentions_in (ends_in by_default u).state

-- the URL is that of key 1
abbrev pub of_key_1 : State Bytes
of_key_1 = record key_store { grants = record url_grant { key = 1 } ∷ [] }

-- and key 1 is deleted
abbrev pub without_key : State Bytes
without_key = record (with_bucket photos_1) { grants = record url_grant { key = 1 } ∷ [] }

-- one number is left, and then none
abbrev pub last_number : State Bytes
last_number = record ready { settings = record ready.settings { last_version = 1 } }

abbrev pub without_numbers : State Bytes
without_numbers = record last_number { next_version = 2 }

-- ---- parts

abbrev pub part_token : List ℕ
part_token = codes "part"

abbrev pub with_start : State Bytes
with_start =
    let M = with_versions (start_at 1000 1 (codes "l") ∷ upload_at 1000 2 (codes "u") [] ∷ []) (with_bucket photos_1) in
    record M { grants = record url_grant { text = part_token; kind = token.PartUrl; file = 1 } ∷ record url_grant { text = codes "other"; kind = token.PartUrl; file = 2 } ∷ [] }

abbrev pub start_gone : State Bytes
start_gone = record with_start { versions = [] }

abbrev pub part_flight : Flight
part_flight = record { conn = 1; token = part_token; upload = upload.Part (part_upload 1) }

abbrev pub part_end : Outcome Bytes
part_end = end length (record with_start { flights = part_flight ∷ [] }) 2000 part_flight (body_abc None) words
