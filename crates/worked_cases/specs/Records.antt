-- Which records open a store, and which don't.
use Rattle.std.specs.Prelude.{ℕ, Bool, true, List, [], ◌∷◌, ◌++◌, Option, codes, map}
use Rattle.std.specs.Option.{is_some}
use Rattle.b2_types.specs.declared.kinds.Mark.TheVariants.{Verified}
use Rattle.b2_types.specs.declared.record.RecordOf.{RecordOf}
use Rattle.b2_types.specs.declared.record.ChangeOf.{ChangeOf}
use Rattle.b2_types.specs.declared.record.ChangeOf.TheVariants as change
use Rattle.b2_model.specs.State.{State}
use Rattle.b2_model.specs.Stored.{replay, record_at}
use Rattle.b2_model.specs.Version.{no_digest}
use Rattle.worked_rows.specs.Store.{Bytes, settings, bucket_of, photos_1, version_of, id_in}
use Rattle.worked_rows.specs.Keys.{maker}

-- what these records after the settings stand for
abbrev pub state_of : List (RecordOf Bytes) → Option (State Bytes)
state_of records = replay (record_at 0 (change.Settings settings) ∷ records)

-- and whether they open a store
abbrev pub opens : List (RecordOf Bytes) → Bool
opens records = is_some (state_of records)

-- the next numbers, of buckets, keys and versions
abbrev pub numbers : ℕ → ℕ → ℕ → ChangeOf Bytes
numbers bucket key version = change.SnapState (record { pass_day = 0; boot = 1; next_bucket = bucket; next_key = key; next_version = version })

abbrev pub upload_of : ℕ → ChangeOf Bytes
upload_of num = change.Upload (version_of num (codes "a")) (codes "abc") Verified no_digest

abbrev pub start_of : ℕ → ChangeOf Bytes
start_of num = change.Start (version_of num (codes "l"))

abbrev pub part_of : ℕ → ChangeOf Bytes
part_of num = change.PartPut (id_in num) 1 (codes "abc") Verified no_digest

-- bucket 1, key 1, the upload 1, the start 2, the marker 3 and the large file 4
abbrev pub first_records : List (RecordOf Bytes)
first_records =
    record_at 0 (change.BucketMake photos_1)
    ∷ record_at 0 (change.KeyMake maker)
    ∷ record_at 0 (upload_of 1)
    ∷ record_at 0 (start_of 2)
    ∷ record_at 0 (change.Hide (id_in 3) (codes "h"))
    ∷ record_at 0 (change.SnapLarge (version_of 4 (codes "g")))
    ∷ []

-- one more change after them
abbrev pub opens_with : ChangeOf Bytes → Bool
opens_with c = opens (first_records ++ record_at 0 c ∷ [])

-- and after the numbers, which came at 100
abbrev pub opens_after_numbers : ℕ → ChangeOf Bytes → Bool
opens_after_numbers t c = opens (first_records ++ record_at 100 (numbers 2 2 5) ∷ record_at t c ∷ [])

abbrev pub bucket_make : ℕ → List ℕ → ChangeOf Bytes
bucket_make num name = change.BucketMake (bucket_of num name true)

abbrev pub key_make : ℕ → ChangeOf Bytes
key_make num = change.KeyMake (record maker { num = num })

-- a marker in a bucket
abbrev pub hide_in : ℕ → ChangeOf Bytes
hide_in bucket = change.Hide (record { bucket = bucket; num = 5 }) (codes "a")

abbrev pub make_and_drop : List (RecordOf Bytes)
make_and_drop = record_at 0 (change.BucketMake photos_1) ∷ record_at 0 (change.BucketDrop 1) ∷ []

-- numbers that fall
abbrev pub falling_records : List (RecordOf Bytes)
falling_records =
    record_at 0 (bucket_make 2 (codes "photos-2"))
    ∷ record_at 0 (bucket_make 1 (codes "photos-1"))
    ∷ record_at 0 (start_of 2)
    ∷ record_at 0 (upload_of 1)
    ∷ record_at 0 (change.PartPut (id_in 2) 3 (codes "abc") Verified no_digest)
    ∷ record_at 0 (change.PartPut (id_in 2) 1 (codes "abc") Verified no_digest)
    ∷ record_at 0 (key_make 2)
    ∷ record_at 0 (key_make 1)
    ∷ []

abbrev pub falling_state : Option (State Bytes)
falling_state = state_of falling_records

abbrev pub bucket_numbers : State Bytes → List ℕ
bucket_numbers M = map (λ b. b.num) M.buckets

abbrev pub key_numbers : State Bytes → List ℕ
key_numbers M = map (λ k. k.num) M.keys
