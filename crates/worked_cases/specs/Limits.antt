-- What a key that is limited to a bucket and a prefix reaches, where another bucket stands and where not.
use Rattle.std.specs.Prelude.{ℕ, Bool, false, List, [], ◌∷◌, ◌++◌, Option, Some, None, codes, if◌then◌else◌}
use Rattle.std.specs.Option.{is_some}
use Rattle.rule_table.specs.CapSet.{set_of}
use Rattle.rule_table.specs.declared.cap.Cap.TheVariants.{ListBuckets, ListFiles, ReadFiles}
use Rattle.b2_types.specs.declared.bucket.Bucket.{Bucket}
use Rattle.b2_types.specs.declared.kinds.TokenKind.TheVariants as token
use Rattle.b2_types.specs.declared.fault.Fault.{Fault}
use Rattle.b2_types.specs.declared.key.Key.{Key}
use Rattle.b2_types.specs.declared.call.Call.{Call}
use Rattle.b2_types.specs.declared.call.Call.TheVariants as call
use Rattle.b2_types.specs.declared.answer.AnswerOf.{AnswerOf}
use Rattle.b2_types.specs.declared.answer.AnswerOf.TheVariants as answer
use Rattle.b2_model.specs.State.{State}
use Rattle.worked_rows.specs.Store.{Bytes, account, master_grant, bucket_of, photos_1, with_bucket, with_versions, upload_at, by_master, by_token, refusal}
use Rattle.worked_rows.specs.Downloads.{holding, by_name}
use Rattle.worked_rows.specs.Buckets.{numbers}

-- key 1: bucket 1 and the prefix `logs/`
abbrev pub logs_key : Key
logs_key = record { num = 1; name = []; caps = set_of (ListBuckets ∷ ListFiles ∷ ReadFiles ∷ []); buckets = 1 ∷ []; prefix = codes "logs/"; end = None; hash = [] }

abbrev pub second_bucket : Bool → List Bucket
second_bucket stands = if stands then bucket_of 2 (codes "photos-2") false ∷ [] else []

-- a token of the key, one for downloads, and whether bucket 2 stands; version 2 is in it
abbrev pub neighbours : Bool → State Bytes
neighbours stands =
    let M = with_versions (upload_at 1 1 (codes "logs/a") [] ∷ record (upload_at 2 2 (codes "logs/a") []) { bucket = 2 } ∷ upload_at 3 3 (codes "b") [] ∷ []) (with_bucket photos_1) in
    record M {
      buckets = photos_1 ∷ second_bucket stands;
      next_bucket = 3;
      keys = M.keys ++ logs_key ∷ [];
      next_key = 2;
      grants = record master_grant { text = codes "logs"; key = 1 } ∷ record master_grant { text = codes "share"; kind = token.Download; key = 1; bucket = 1; prefix = codes "logs/" } ∷ [];
    }

abbrev pub by_key : Bool → Call → Option Fault
by_key stands c = refusal (by_token (neighbours stands) 1000 (Some (codes "logs")) c).answer

abbrev pub by_share : Bool → Call → Option Fault
by_share stands c = refusal (by_token (neighbours stands) 1000 (Some (codes "share")) c).answer

-- a download
abbrev pub get : List ℕ → List ℕ → Call
get bucket name = call.DownloadFileByName (record { bucket = bucket; name = name; range = None })

abbrev pub names_of : ℕ → Call
names_of bucket = call.ListFileNames (record { bucket = bucket; start = None; max = None; prefix = Some (codes "logs/"); delimiter = None; start_file = None })

-- the information of a version of a bucket
abbrev pub info_of : ℕ → ℕ → Call
info_of bucket file = call.GetFileInfo (record { bucket = bucket; file = file })

-- ---- the listing of buckets

abbrev pub buckets_of : Option ℕ → Option (List ℕ) → Call
buckets_of num name = call.ListBuckets (record { account = account; bucket = num; name = name; types = None })

abbrev pub second_name : Option (List ℕ)
second_name = Some (codes "photos-2")

abbrev pub buckets_shown : Bool → Option ℕ → Option (List ℕ) → List ℕ
buckets_shown stands num name = numbers (by_token (neighbours stands) 1000 (Some (codes "logs")) (buckets_of num name)).answer

-- ---- downloads by the master key

-- whether the retention of the file is shown
abbrev pub retention_shown : AnswerOf Bytes → Option Bool
retention_shown (answer.Content c) = Some (is_some c.file.retention)
retention_shown other = None

-- from a bucket that is public or not
abbrev pub shown_from : Bool → Option Bool
shown_from public = retention_shown (by_master (record holding { buckets = record photos_1 { public = public } ∷ [] }) 1000 (by_name (codes "a.txt") None)).answer
