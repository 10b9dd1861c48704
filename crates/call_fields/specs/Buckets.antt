-- The fields of the calls on buckets, in the order in which they are judged (the B2 reference).
use Rattle.std.specs.Prelude.{codes}
use Rattle.b2_types.specs.declared.call.DeleteBucket.{DeleteBucket}
use Rattle.b2_types.specs.declared.call.ListBuckets.{ListBuckets}
use Rattle.field_kinds.specs.Reader.{Reader, fields_of, ◌with◌, needed, optional}
use Rattle.field_kinds.specs.Kinds.{text, bucket_id, bucket_name, list_of}

abbrev pub delete_bucket : Reader DeleteBucket
delete_bucket = fields_of (λ account bucket. record { account = account; bucket = bucket })
    with needed (codes "accountId") text
    with needed (codes "bucketId") bucket_id

abbrev pub list_buckets : Reader ListBuckets
list_buckets = fields_of (λ account bucket name types. record { account = account; bucket = bucket; name = name; types = types })
    with needed (codes "accountId") text
    with optional (codes "bucketId") bucket_id
    with optional (codes "bucketName") bucket_name
    with optional (codes "bucketTypes") (list_of text)
