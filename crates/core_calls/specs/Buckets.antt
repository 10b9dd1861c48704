-- The bucket of a record.
use Rattle.std.specs.Prelude.{Option, Some, None}
use Rattle.b2_base.specs.declared.extent.Extent.{Extent}
use Rattle.b2_types.specs.declared.bucket.Bucket.{Bucket}
use Rattle.b2_types.specs.declared.record.ChangeOf.{ChangeOf}
use Rattle.b2_types.specs.declared.record.ChangeOf.TheVariants as change

abbrev pub bucket_in : ChangeOf Extent → Option Bucket
bucket_in (change.BucketMake b) = Some b
bucket_in (change.BucketUpdate b) = Some b
bucket_in other = None
