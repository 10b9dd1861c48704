-- Calls on buckets.
use Rattle.std.specs.Prelude.{ℕ, Bool, true, false, List, [], ◌∷◌, Option, Some, None, codes, map, replicate}
use Rattle.b2_types.specs.declared.kinds.Mode.TheVariants.{Governance}
use Rattle.b2_types.specs.declared.kinds.Period.TheVariants.{Days}
use Rattle.b2_types.specs.declared.bucket.Bucket.{Bucket}
use Rattle.b2_types.specs.declared.bucket.DefaultRetention.{DefaultRetention}
use Rattle.b2_types.specs.declared.fault.Fault.{Fault}
use Rattle.b2_types.specs.declared.call.CreateBucket.{CreateBucket}
use Rattle.b2_types.specs.declared.call.UpdateBucket.{UpdateBucket}
use Rattle.b2_types.specs.declared.call.Call.TheVariants as call
use Rattle.b2_types.specs.declared.shown.ShownBucket.{ShownBucket}
use Rattle.b2_types.specs.declared.answer.AnswerOf.{AnswerOf}
use Rattle.b2_types.specs.declared.answer.AnswerOf.TheVariants as answer
use Rattle.b2_types.specs.declared.shown.Shown.TheVariants as shown
use Rattle.b2_model.specs.State.{State}
use Rattle.b2_model.specs.Ask.{Outcome}
use Rattle.worked_rows.specs.Store.{Bytes, store, account, by_master, refusal, bucket_of, photos_1, with_bucket, with_versions, start_at}

abbrev pub bucket_call : List ℕ → CreateBucket
bucket_call name = record { account = account; name = name; public = false; info = None; lock = None; rules = None }

abbrev pub photos : Outcome Bytes
photos = by_master store 1000 (call.CreateBucket (bucket_call (codes "photos-1")))

abbrev pub again : Outcome Bytes
again = by_master photos.state 2000 (call.CreateBucket (bucket_call (codes "PHOTOS-1")))

abbrev pub shown_photos : ShownBucket
shown_photos = record {
  account = account;
  num = 1;
  name = codes "photos-1";
  public = false;
  revision = 1;
  lock = Some (record { enabled = false; default = None });
  info = [];
  rules = [];
}

-- ---- updates and deletion

abbrev pub update : Option ℕ → UpdateBucket
update revision = record { account = account; bucket = 1; public = Some true; info = None; default = None; lock = None; rules = None; revision = revision }

-- bucket 1 at revision 2
abbrev pub at_two : State Bytes
at_two = with_bucket (record photos_1 { revision = 2 })

abbrev pub updated_if : Option ℕ → Outcome Bytes
updated_if revision = by_master at_two 3000 (call.UpdateBucket (update revision))

abbrev pub update_refused : Bucket → UpdateBucket → Option Fault
update_refused b u = refusal (by_master (with_bucket b) 3000 (call.UpdateBucket u)).answer

abbrev pub create_refused : State Bytes → Option Fault
create_refused M = refusal (by_master M 1000 (call.CreateBucket (bucket_call (codes "photos-2")))).answer

-- no number is left
abbrev pub without_numbers : State Bytes
without_numbers = record store { next_bucket = 4294967295 }

-- an update with this default and lock
abbrev pub lock_update : Option (Option DefaultRetention) → Option Bool → UpdateBucket
lock_update default lock = record (update None) { default = default; lock = lock }

abbrev pub lock_taken_off : UpdateBucket
lock_taken_off = lock_update None (Some false)

abbrev pub second_bucket : Bucket
second_bucket = record photos_1 { num = 2 }

abbrev pub last_revision : Bucket
last_revision = record photos_1 { revision = 9007199254740991 }

abbrev pub ten_days : Option (Option DefaultRetention)
ten_days = Some (Some (record { mode = Governance; period = Days 10 }))

abbrev pub deletion : State Bytes → Outcome Bytes
deletion M = by_master M 3000 (call.DeleteBucket (record { account = account; bucket = 1 }))

abbrev pub start_store : State Bytes
start_store = with_versions (start_at 1 1 (codes "l") ∷ []) (with_bucket photos_1)

-- the numbers of the buckets that a listing shows
abbrev pub numbers : AnswerOf Bytes → List ℕ
numbers (answer.Json (shown.Buckets bs)) = map (λ b. b.num) bs
numbers other = []

abbrev pub two_buckets : State Bytes
two_buckets = record (with_bucket photos_1) { buckets = photos_1 ∷ record (bucket_of 2 (codes "photos-2") true) { public = true } ∷ []; next_bucket = 3 }

abbrev pub listed_by : Option ℕ → Option (List ℕ) → Option (List (List ℕ)) → List ℕ
listed_by bucket name types =
    numbers (by_master two_buckets 3000 (call.ListBuckets (record { account = account; bucket = bucket; name = name; types = types }))).answer

-- a hundred buckets of one name are as many as a store may have
abbrev pub hundred : State Bytes
hundred = record store { buckets = replicate 100 photos_1; next_bucket = 101 }
