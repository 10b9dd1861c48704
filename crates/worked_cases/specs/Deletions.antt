-- What stays where a deletion is refused, and a hold that is put on.
use Rattle.std.specs.Prelude.{ℕ, true, false, Bool, List, [], ◌∷◌, Some, None, codes, map}
use Rattle.b2_types.specs.declared.version.VersionOf.{VersionOf}
use Rattle.b2_types.specs.declared.bucket.Rule.{Rule}
use Rattle.b2_types.specs.declared.call.Call.TheVariants as call
use Rattle.b2_model.specs.State.{State}
use Rattle.b2_model.specs.Ask.{Outcome}
use Rattle.worked_rows.specs.Store.{Bytes, photos_1, lock_bucket, with_bucket, with_versions, upload_at, by_master}
use Rattle.worked_rows.specs.Buckets.{deletion}

-- the numbers of the buckets after the deletion of bucket 1, where this version stands in it
abbrev pub buckets_after : VersionOf Bytes → List ℕ
buckets_after v = map (λ b. b.num) (deletion (with_versions (v ∷ []) (with_bucket photos_1))).state.buckets

-- ---- a version and its name

abbrev pub lock_store : State Bytes
lock_store = with_versions (upload_at 1 1 (codes "a") [] ∷ []) (with_bucket lock_bucket)

abbrev pub delete_named : State Bytes → List ℕ → Outcome Bytes
delete_named M name = by_master M 3000 (call.DeleteFileVersion (record { name = name; bucket = 1; file = 1; bypass = Some true }))

abbrev pub version_numbers : Outcome Bytes → List ℕ
version_numbers o = map (λ v. v.num) o.state.versions

-- ---- a hold

abbrev pub hold_of : State Bytes → Bool → Outcome Bytes
hold_of M hold = by_master M 2000 (call.UpdateFileLegalHold (record { name = codes "a"; bucket = 1; file = 1; hold = hold }))

abbrev pub hold_on : Outcome Bytes
hold_on = hold_of lock_store true

abbrev pub hold_off : Outcome Bytes
hold_off = hold_of hold_on.state false

-- ---- rules of a bucket

abbrev pub rule_for : List ℕ → Rule
rule_for prefix = record { prefix = prefix; hide_days = Some 1; delete_days = None; cancel_days = None }
