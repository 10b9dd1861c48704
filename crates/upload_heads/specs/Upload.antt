-- Which upload the head of a request is: the tables of both kinds of upload, whose headers are judged in the
-- order in which they stand here (the B2 reference, b2_upload_file and b2_upload_part).
use Rattle.std.specs.Prelude.{◌≡◌, ⊤, ℕ, List, false, ◌||◌, codes, Option, None, unwrap_or, if◌then◌else◌, Result, Ok, Err}
use Rattle.std.specs.List.{list_any}
use Rattle.http_header.specs.HeaderMap.{keys}
use Rattle.rule_table.specs.declared.call.CallName.{CallName}
use Rattle.rule_table.specs.declared.call.CallName.TheVariants as calls
use Rattle.rule_table.specs.declared.fault.FaultKind.TheVariants as faults
use Rattle.b2_types.specs.declared.fault.Fault.{Fault}
use Rattle.b2_types.specs.declared.fault.Target.{Target}
use Rattle.b2_types.specs.declared.fault.Target.TheVariants as target
use Rattle.b2_types.specs.declared.kinds.Retention.{Retention}
use Rattle.b2_types.specs.declared.upload.FileUpload.{FileUpload}
use Rattle.b2_types.specs.declared.upload.PartUpload.{PartUpload}
use Rattle.b2_types.specs.declared.upload.UploadCall.{UploadCall}
use Rattle.b2_types.specs.declared.upload.UploadCall.TheVariants as upload
use Rattle.b2_types.specs.Fault.{with_word}
use Rattle.name_rules.specs.Folder.{begins_with}
use Rattle.field_kinds.specs.Info.{Pairs}
use Rattle.field_kinds.specs.Kinds.{mode_of}
use Rattle.field_kinds.specs.Reader.{given}
use Rattle.wire_forms.specs.declared.request.Request.{Request}
use Rattle.upload_heads.specs.Table.{Row, is_given, needed, optional, ◌with◌, rows_of}
use Rattle.upload_heads.specs.Kinds.{file_name, content_type, digest_rule, hold, moment, part_number}
use Rattle.upload_heads.specs.Information.{IsInfoOf}

-- ---- retentions

abbrev pub mode_name : List ℕ
mode_name = codes "x-bz-file-retention-mode"

abbrev pub until_name : List ℕ
until_name = codes "x-bz-file-retention-retain-until-timestamp"

abbrev pub retention_rows : Row Retention
retention_rows = rows_of (λ mode until. record { mode = mode; until = until })
    with needed mode_name mode_of
    with needed until_name moment

-- both headers of a retention are there, or none
unfoldable pub retention : Row (Option Retention)
retention headers = if is_given mode_name headers || is_given until_name headers then given (retention_rows headers) else Ok None

-- ---- what is not offered

abbrev pub encryption_front : List ℕ
encryption_front = codes "x-bz-server-side-encryption"

-- no header of server-side encryption stands
unfoldable pub not_encrypted : Row ⊤
not_encrypted headers =
    if list_any (begins_with encryption_front) (keys headers) then Err (with_word faults.Unsupported encryption_front) else Ok tt

-- ---- the tables

-- the information is read before, and judged in its place
abbrev pub file_upload : ℕ → ℕ → Result Pairs Fault → Row FileUpload
file_upload bucket length info = rows_of (λ name kind digest pairs on r none.
    record { bucket = bucket; length = length; digest = digest; name = name; kind = kind; info = pairs; retention = r; hold = unwrap_or on false })
    with needed (codes "x-bz-file-name") file_name
    with needed (codes "content-type") content_type
    with needed (codes "x-bz-content-sha1") digest_rule
    with (λ headers. info)
    with optional (codes "x-bz-file-legal-hold") hold
    with retention
    with not_encrypted

abbrev pub part_upload : ℕ → ℕ → ℕ → Row PartUpload
part_upload bucket file length = rows_of (λ number digest none.
    record { bucket = bucket; file = file; length = length; digest = digest; number = number })
    with needed (codes "x-bz-part-number") part_number
    with needed (codes "x-bz-content-sha1") digest_rule
    with not_encrypted

-- ---- the upload

abbrev pub bad_upload : CallName → Target → Fault → UploadCall
bad_upload name target f = upload.Bad (record { name = name; target = target; bucket = None; fault = f })

-- the upload, or one that is bad with this fault
abbrev pub or_bad : {U : Type 0} → CallName → Target → (U → UploadCall) → Result U Fault → UploadCall
or_bad name target wrap (Ok u) = wrap u
or_bad name target wrap (Err f) = bad_upload name target f

-- to this bucket
abbrev pub IsFileUpload : Request → ℕ → UploadCall → Type 0
IsFileUpload r bucket u = (info : Result Pairs Fault) × IsInfoOf r.headers info
    × (u ≡ or_bad calls.UploadFile (target.Bucket bucket) (λ f. upload.File f) (file_upload bucket r.length info r.headers))

-- to this large file
abbrev pub IsPartUpload : Request → ℕ → ℕ → UploadCall → Type 0
IsPartUpload r bucket file u =
    u ≡ or_bad calls.UploadPart (target.File bucket file) (λ p. upload.Part p) (part_upload bucket file r.length r.headers)
