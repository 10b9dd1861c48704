-- The fields of the calls that give information about a bucket or a file, in the order in which they are
-- judged (the B2 reference). The information is read before, and judged in its place.
use Rattle.std.specs.Prelude.{codes, Option}
use Rattle.json_shape.specs.Fields.{number_within}
use Rattle.b2_types.specs.declared.call.CreateBucket.{CreateBucket}
use Rattle.b2_types.specs.declared.call.StartCall.{StartCall}
use Rattle.b2_types.specs.declared.call.UpdateBucket.{UpdateBucket}
use Rattle.field_kinds.specs.declared.texts.TextRule.TheVariants as rule
use Rattle.field_kinds.specs.Reader.{Reader, fields_of, ◌with◌, needed, optional}
use Rattle.field_kinds.specs.Kinds.{text, text_by, flag, bucket_id, bucket_name, bucket_type, file_name, hold}
use Rattle.field_kinds.specs.Rules.{rules, default_retention}
use Rattle.field_kinds.specs.Offered.{idle, is_null, is_no_list, is_no_encryption}
use Rattle.field_kinds.specs.Kept.{kept}
use Rattle.field_kinds.specs.Info.{Pairs}

abbrev pub create_bucket : Option Pairs → Reader CreateBucket
create_bucket info = fields_of (λ account name public given lock rs cors encryption replication.
    record { account = account; name = name; public = public; info = given; lock = lock; rules = rs })
    with needed (codes "accountId") text
    with needed (codes "bucketName") bucket_name
    with needed (codes "bucketType") bucket_type
    with optional (codes "bucketInfo") (λ d. info)
    with optional (codes "fileLockEnabled") flag
    with optional (codes "lifecycleRules") rules
    with idle (codes "corsRules") is_no_list
    with idle (codes "defaultServerSideEncryption") is_no_encryption
    with idle (codes "replicationConfiguration") is_null

abbrev pub update_bucket : Option Pairs → Reader UpdateBucket
update_bucket info = fields_of (λ account bucket public given kept lock rs revision cors encryption replication.
    record { account = account; bucket = bucket; public = public; info = given; default = kept; lock = lock; rules = rs; revision = revision })
    with needed (codes "accountId") text
    with needed (codes "bucketId") bucket_id
    with optional (codes "bucketType") bucket_type
    with optional (codes "bucketInfo") (λ d. info)
    with optional (codes "defaultRetention") default_retention
    with optional (codes "fileLockEnabled") flag
    with optional (codes "lifecycleRules") rules
    with optional (codes "ifRevisionIs") (number_within 0 18446744073709551615)
    with idle (codes "corsRules") is_no_list
    with idle (codes "defaultServerSideEncryption") is_no_encryption
    with idle (codes "replicationConfiguration") is_null

abbrev pub start_fields : Option Pairs → Reader StartCall
start_fields info = fields_of (λ bucket name kind given r on.
    record { bucket = bucket; name = name; kind = kind; info = given; retention = r; hold = on })
    with needed (codes "bucketId") bucket_id
    with needed (codes "fileName") file_name
    with needed (codes "contentType") (text_by rule.ContentType)
    with optional (codes "fileInfo") (λ d. info)
    with kept (codes "fileRetention")
    with optional (codes "legalHold") hold

abbrev pub start_large_file : Option Pairs → Reader StartCall
start_large_file info = fields_of (λ call encryption. call)
    with start_fields info
    with idle (codes "serverSideEncryption") is_no_encryption
