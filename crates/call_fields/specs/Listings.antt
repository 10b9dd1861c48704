-- The fields of the listings and of the calls on large files, in the order in which they are judged (the B2
-- reference).
use Rattle.std.specs.Prelude.{ℕ, codes, List, is_some, Option, Some, None, option_and_then, option_map, if◌then◌else◌, ◌&&◌, ◌==◌, not, Result, Ok, Err}
use Rattle.serde_json.specs.Data.{Data}
use Rattle.json_shape.specs.Fields.{number_within}
use Rattle.b2_types.specs.declared.fault.Fault.{Fault}
use Rattle.b2_types.specs.declared.record.VersionId.{VersionId}
use Rattle.b2_types.specs.declared.call.FinishCall.{FinishCall}
use Rattle.b2_types.specs.declared.call.ListFiles.{ListFiles}
use Rattle.b2_types.specs.declared.call.ListParts.{ListParts}
use Rattle.b2_types.specs.declared.call.ListUnfinished.{ListUnfinished}
use Rattle.field_kinds.specs.declared.texts.TextRule.TheVariants as rule
use Rattle.field_kinds.specs.Reader.{Reader, fields_of, ◌with◌, needed, optional, wrong, and_then}
use Rattle.field_kinds.specs.Kinds.{text, text_by, bucket_id, file_id, list_of, digest}

-- a start may be any number of 32 bits
abbrev pub list_parts : Reader ListParts
list_parts = fields_of (λ id start max. record { bucket = id.bucket; file = id.num; start = start; max = max })
    with needed (codes "fileId") file_id
    with optional (codes "startPartNumber") (number_within 0 4294967295)
    with optional (codes "maxPartCount") (number_within 0 1000)

abbrev pub finish : Reader FinishCall
finish = fields_of (λ id digests. record { bucket = id.bucket; file = id.num; digests = digests })
    with needed (codes "fileId") file_id
    with needed (codes "partSha1Array") (list_of digest)

-- of the start its number alone counts
abbrev pub list_unfinished : Reader ListUnfinished
list_unfinished = fields_of (λ bucket prefix start max. record { bucket = bucket; prefix = prefix; start = option_map (λ id. id.num) start; max = max })
    with needed (codes "bucketId") bucket_id
    with optional (codes "namePrefix") text
    with optional (codes "startFileId") file_id
    with optional (codes "maxFileCount") (number_within 0 100)

abbrev pub list_names : Reader ListFiles
list_names = fields_of (λ bucket start max prefix delimiter.
    record { bucket = bucket; start = start; max = max; prefix = prefix; delimiter = delimiter; start_file = None })
    with needed (codes "bucketId") bucket_id
    with optional (codes "startFileName") text
    with optional (codes "maxFileCount") (number_within 0 10000)
    with optional (codes "prefix") text
    with optional (codes "delimiter") (text_by rule.Delimiter)

-- a version to start at is of the bucket, is not of number 0, and comes with its name
abbrev pub started : ListFiles → Option VersionId → Result ListFiles Fault
started c None = Ok c
started c (Some id) = if id.bucket == c.bucket && not (id.num == 0) && is_some c.start
    then Ok (record c { start_file = Some id.num }) else Err (wrong (codes "startFileId"))

-- the listing of versions has the fields of that of names, and after them where to start
abbrev pub list_versions : Reader ListFiles
list_versions d = and_then (list_names d) (λ c. and_then (optional (codes "startFileId") file_id d) (started c))
