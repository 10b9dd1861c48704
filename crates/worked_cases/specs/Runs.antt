-- Runs of steps, restarts, and the stored part.
use Rattle.std.specs.Prelude.{ℕ, List, [], ◌∷◌, ◌++◌, Option, Some, None, codes, map}
use Rattle.b2_types.specs.declared.call.Call.{Call}
use Rattle.b2_types.specs.declared.call.Call.TheVariants as call
use Rattle.b2_model.specs.State.{State}
use Rattle.b2_model.specs.Version.{marker}
use Rattle.b2_model.specs.Stored.{stored_part, snapshot, replay}
use Rattle.b2_model.specs.Run.{Progress, asks, begins, ends, loses, passes, restarts, run, of_bytes}
use Rattle.b2_types.specs.declared.upload.UploadCall.TheVariants as upload
use Rattle.worked_rows.specs.Store.{Bytes, store, master, master_grant, words, with_versions, upload_at}
use Rattle.worked_rows.specs.Buckets.{bucket_call}
use Rattle.worked_rows.specs.Uploads.{ready, given_abc, body_abc, url_token}
use Rattle.worked_rows.specs.Large.{complete, joined_file}
use Rattle.worked_rows.specs.Keys.{maker}

abbrev pub create : List ℕ → Call
create name = call.CreateBucket (bucket_call name)

-- readings that fall, and one past the last moment
abbrev pub falling_readings : Progress Bytes
falling_readings = run of_bytes store words (asks 5000 master (create (codes "photos-1")) ∷ asks 2000 master (create (codes "photos-2")) ∷ [])

abbrev pub far : Progress Bytes
far = run of_bytes store words (passes 253402300800000 ∷ [])

-- the first step of a day
abbrev pub next_day : Progress Bytes
next_day = run of_bytes (record store { grants = record master_grant { end = 90000000 } ∷ [] }) words (asks 86399000 master (create (codes "photos-1")) ∷ asks 86400000 master (create (codes "photos-2")) ∷ [])

-- an upload is begun, and the store is opened again
abbrev pub second_opening : Progress Bytes
second_opening = run of_bytes ready words (begins 3000 1 (Some url_token) (upload.File given_abc) ∷ restarts 1000 ∷ [])

-- an upload begins and ends, and one is lost
abbrev pub uploads : Progress Bytes
uploads = run of_bytes ready words (begins 3000 1 (Some url_token) (upload.File given_abc) ∷ ends 4000 1 (body_abc None) ∷ begins 5000 2 (Some url_token) (upload.File given_abc) ∷ loses 6000 2 ∷ [])

-- a store with a version of each kind, and a key
abbrev pub full : State Bytes
full =
    let M = with_versions (upload_at 5 2 (codes "a") (codes "abc") ∷ marker 1 3 (codes "b") 6 ∷ []) joined_file.state in
    record M { keys = M.keys ++ maker ∷ []; next_key = 2 }

abbrev pub before_finish : State Bytes
before_finish = complete

-- what the snapshot of a state stands for
abbrev pub replay_of : State Bytes → Option (State Bytes)
replay_of M = replay (snapshot (stored_part M))

abbrev pub bucket_names : Progress Bytes → List (List ℕ)
bucket_names P = map (λ b. b.name) P.state.buckets
