-- The fields of the calls that copy files, in the order in which they are judged (the B2 reference).
use Rattle.std.specs.Prelude.{codes, Option}
use Rattle.json_shape.specs.Fields.{number_within}
use Rattle.b2_types.specs.declared.call.CopyFile.{CopyFile}
use Rattle.b2_types.specs.declared.call.CopyPart.{CopyPart}
use Rattle.field_kinds.specs.Reader.{Reader, fields_of, ◌with◌, needed, optional}
use Rattle.field_kinds.specs.Kinds.{bucket_id, file_id, file_name, hold}
use Rattle.field_kinds.specs.Kept.{kept}
use Rattle.field_kinds.specs.Info.{Pairs}
use Rattle.copy_fields.specs.Metadata.{range, metadata}

abbrev pub copy_file : Option Pairs → Reader CopyFile
copy_file info = fields_of (λ source bucket name part meta r on.
    record { source = source; bucket = bucket; name = name; range = part; metadata = meta; retention = r; hold = on })
    with needed (codes "sourceFileId") file_id
    with optional (codes "destinationBucketId") bucket_id
    with needed (codes "fileName") file_name
    with optional (codes "range") range
    with metadata info
    with kept (codes "fileRetention")
    with optional (codes "legalHold") hold

abbrev pub copy_part : Reader CopyPart
copy_part = fields_of (λ source id number part. record { source = source; bucket = id.bucket; file = id.num; number = number; range = part })
    with needed (codes "sourceFileId") file_id
    with needed (codes "largeFileId") file_id
    with needed (codes "partNumber") (number_within 1 10000)
    with optional (codes "range") range
