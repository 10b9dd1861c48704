-- Buckets and URLs that are shown.
use Rattle.std.specs.Prelude.{true, false, [], ◌∷◌, Some, None, codes}
use Rattle.b2_types.specs.declared.kinds.Mode.TheVariants.{Governance}
use Rattle.b2_types.specs.declared.kinds.Period.TheVariants.{Days}
use Rattle.b2_types.specs.declared.bucket.Bucket.{Bucket}
use Rattle.b2_types.specs.declared.call.Call.TheVariants as call
use Rattle.b2_model.specs.Ask.{Outcome}
use Rattle.worked_rows.specs.Store.{Bytes, with_bucket, by_master, by_token}
use Rattle.worked_rows.specs.Downloads.{holding}
use Rattle.worked_cases.specs.Limits.{neighbours, buckets_of}

-- a public bucket with all that a bucket may have
abbrev pub full_bucket : Bucket
full_bucket = record {
  num = 1;
  name = codes "photos-1";
  public = true;
  revision = 7;
  lock = true;
  default = Some (record { mode = Governance; period = Days 10 });
  info = (codes "a", codes "1") ∷ (codes "b", codes "2") ∷ [];
  rules = record { prefix = codes "logs/"; hide_days = Some 2; delete_days = Some 1; cancel_days = None } ∷ [];
}

abbrev pub listing_of_full : Outcome Bytes
listing_of_full = by_master (with_bucket full_bucket) 1000 (buckets_of None None)

-- by a key that may not read retentions
abbrev pub listing_by_limited : Outcome Bytes
listing_by_limited = by_token (neighbours false) 1000 (Some (codes "logs")) (buckets_of (Some 1) None)

abbrev pub upload_url : Outcome Bytes
upload_url = by_master holding 1000 (call.GetUploadUrl (record { bucket = 1 }))

abbrev pub part_url : Outcome Bytes
part_url = by_master holding 1000 (call.GetUploadPartUrl (record { bucket = 1; file = 4 }))

abbrev pub download_token : Outcome Bytes
download_token = by_master holding 1000 (call.GetDownloadAuthorization (record { bucket = 1; prefix = codes "a"; duration = 60 }))
