-- The fields of the calls on files, in the order in which they are judged (the B2 reference).
use Rattle.std.specs.Prelude.{codes, option_and_then}
use Rattle.json_shape.specs.Fields.{number_within}
use Rattle.b2_types.specs.declared.call.AuthorizeDownload.{AuthorizeDownload}
use Rattle.b2_types.specs.declared.call.DeleteVersion.{DeleteVersion}
use Rattle.b2_types.specs.declared.call.FileCall.{FileCall}
use Rattle.b2_types.specs.declared.call.GetUploadUrl.{GetUploadUrl}
use Rattle.b2_types.specs.declared.call.HideFile.{HideFile}
use Rattle.b2_types.specs.declared.call.UpdateHold.{UpdateHold}
use Rattle.b2_types.specs.declared.call.UpdateRetention.{UpdateRetention}
use Rattle.field_kinds.specs.Reader.{Reader, fields_of, ◌with◌, needed, optional}
use Rattle.field_kinds.specs.Kinds.{text, flag, bucket_id, file_id, file_name, hold, retention}

abbrev pub get_upload_url : Reader GetUploadUrl
get_upload_url = fields_of (λ bucket. record { bucket = bucket })
    with needed (codes "bucketId") bucket_id

-- of a part URL, of cancelling a large file and of a file's information
abbrev pub file_call : Reader FileCall
file_call = fields_of (λ id. record { bucket = id.bucket; file = id.num })
    with needed (codes "fileId") file_id

abbrev pub hide_file : Reader HideFile
hide_file = fields_of (λ bucket name. record { bucket = bucket; name = name })
    with needed (codes "bucketId") bucket_id
    with needed (codes "fileName") file_name

abbrev pub delete_version : Reader DeleteVersion
delete_version = fields_of (λ name id bypass. record { name = name; bucket = id.bucket; file = id.num; bypass = bypass })
    with needed (codes "fileName") file_name
    with needed (codes "fileId") file_id
    with optional (codes "bypassGovernance") flag

-- for at most seven days
abbrev pub authorize_download : Reader AuthorizeDownload
authorize_download = fields_of (λ bucket prefix duration. record { bucket = bucket; prefix = prefix; duration = duration })
    with needed (codes "bucketId") bucket_id
    with needed (codes "fileNamePrefix") text
    with needed (codes "validDurationInSeconds") (number_within 1 604800)

abbrev pub update_hold : Reader UpdateHold
update_hold = fields_of (λ name id on. record { name = name; bucket = id.bucket; file = id.num; hold = on })
    with needed (codes "fileName") file_name
    with needed (codes "fileId") file_id
    with needed (codes "legalHold") hold

abbrev pub update_retention : Reader UpdateRetention
update_retention = fields_of (λ name id kept bypass. record { name = name; bucket = id.bucket; file = id.num; retention = kept; bypass = bypass })
    with needed (codes "fileName") file_name
    with needed (codes "fileId") file_id
    with needed (codes "fileRetention") retention
    with optional (codes "bypassGovernance") flag
