-- The calls that download, as the heads of their requests tell them (the B2 reference, b2_download_file_by_id and
-- b2_download_file_by_name).
use Rattle.std.specs.Prelude.{◌≡◌, ℕ, List, length, codes, Option, Some, None, option_and_then}
use Rattle.http_header.specs.HeaderMap.{get}
use Rattle.rule_table.specs.declared.call.CallName.{CallName}
use Rattle.rule_table.specs.declared.call.CallName.TheVariants as calls
use Rattle.name_rules.specs.FileName.{IsFileName}
use Rattle.name_rules.specs.Decode.{HasNoBadEscape, decoded_name}
use Rattle.b2_types.specs.declared.call.ByteRange.{ByteRange}
use Rattle.b2_types.specs.declared.call.Call.{Call}
use Rattle.b2_types.specs.declared.call.Call.TheVariants as call
use Rattle.b2_types.specs.declared.fault.Fault.{Fault}
use Rattle.b2_types.specs.declared.fault.Target.TheVariants as target
use Rattle.b2_types.specs.declared.record.VersionId.{VersionId}
use Rattle.byte_ranges.specs.Ranges.{range_of}
use Rattle.call_paths.specs.Path.{IsDownloadOf}
use Rattle.field_kinds.specs.Reader.{missing, wrong}
use Rattle.field_kinds.specs.Spelled.{file_of}
use Rattle.wire_forms.specs.declared.request.Request.{Request}
use Rattle.head_fields.specs.Query.{first_param}
use Rattle.head_fields.specs.Token.{IsTextOf}

-- the range that the first Range header asks for; one of another form is ignored
abbrev pub range_asked : Request → Option ByteRange
range_asked r = option_and_then (λ value. range_of value.bytes) (get r.headers (codes "range"))

abbrev pub bad_download : CallName → Option (List ℕ) → Fault → Call
bad_download name bucket f = call.Bad (record { name = name; target = target.Nothing; bucket = bucket; fault = f })

-- ---- by id

abbrev pub with_id : Option ByteRange → Option VersionId → Call
with_id range None = bad_download calls.DownloadFileById None (wrong (codes "fileId"))
with_id range (Some id) = call.DownloadFileById (record { bucket = id.bucket; file = id.num; range = range })

abbrev pub with_param : Option ByteRange → Option (List ℕ) → Call
with_param range None = bad_download calls.DownloadFileById None (missing (codes "fileId"))
with_param range (Some text) = with_id range (file_of text)

-- the first parameter of the query that is named fileId is the id of the file
abbrev pub by_id : Request → Call
by_id r = with_param (range_asked r) (first_param (codes "fileId") r.query)

-- ---- by name

-- the bytes are a name of a file, with escapes
abbrev pub IsEscaped : List ℕ → Type 0
IsEscaped bytes = HasNoBadEscape bytes (length bytes) × IsFileName (decoded_name bytes)

-- the call is for this bucket, and for the name that the bytes stand for, or it is bad
abbrev pub IsNamed : Request → List ℕ → List ℕ → Call → Type 0
IsNamed r bucket bytes c =
    (IsEscaped bytes → c ≡ call.DownloadFileByName (record { bucket = bucket; name = decoded_name bytes; range = range_asked r }))
    × ((IsEscaped bytes → ⊥) → c ≡ bad_download calls.DownloadFileByName (Some bucket) (wrong (codes "fileName")))

-- the path has the bucket's name as it stands, and the file's with escapes
abbrev pub IsByName : Request → Call → Type 0
IsByName r c = (bucket : List ℕ) × (bytes : List ℕ) × (text : List ℕ) × IsDownloadOf r.path bucket bytes × IsTextOf bucket text × IsNamed r text bytes c

-- the path is one of a download by name
abbrev pub HasNamePath : Request → Type 0
HasNamePath r = (bucket : List ℕ) × (bytes : List ℕ) × IsDownloadOf r.path bucket bytes
