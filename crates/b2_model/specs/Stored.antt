-- The stored part of the state: what outlives a restart. It is the replay of its records, and a snapshot
-- gives records whose replay it is.
use Rattle.std.specs.Prelude.{ℕ, zero, suc, Bool, true, false, not, ◌&&◌, ◌||◌, ◌==◌, nat_le, nat_lt, List, [], ◌∷◌, ◌++◌, Option, Some, None, if◌then◌else◌, map, filter, take, drop, length, option_map}
use Rattle.std.specs.Option.{is_none, is_some}
use Rattle.std.specs.List.{list_any, flat_map}
use Rattle.b2_types.specs.declared.kinds.Mark.{Mark}
use Rattle.b2_types.specs.declared.kinds.Mark.TheVariants as mark
use Rattle.b2_types.specs.declared.bucket.Bucket.{Bucket}
use Rattle.b2_types.specs.declared.version.VersionOf.{VersionOf}
use Rattle.b2_types.specs.declared.version.PartOf.{PartOf}
use Rattle.b2_types.specs.declared.record.NewVersion.{NewVersion}
use Rattle.b2_types.specs.declared.record.VersionId.{VersionId}
use Rattle.b2_types.specs.declared.record.Numbers.{Numbers}
use Rattle.b2_types.specs.declared.record.RecordOf.{RecordOf}
use Rattle.b2_types.specs.declared.record.ChangeOf.{ChangeOf}
use Rattle.b2_types.specs.declared.record.ChangeOf.TheVariants as change
use Rattle.b2_model.specs.Kinds.{is_upload, is_hide, is_start}
use Rattle.b2_model.specs.Checks.{some_and}
use Rattle.b2_model.specs.State.{State, bucket_at, key_at}
use Rattle.b2_model.specs.Rows.{version_at}
use Rattle.b2_model.specs.Lists.{is_empty}
use Rattle.b2_model.specs.Policy.{is_same_name}
use Rattle.b2_types.specs.LifecycleRules.{are_rules}
use Rattle.b2_model.specs.Plan.{id_of, number_end}
use Rattle.b2_model.specs.Changes.{after_record, state_of_settings}

abbrev pub stored_part : {C : Type 0} → State C → State C
stored_part M = record M { now = M.kept; serial = 0; grants = []; flights = [] }

-- ---- which records apply

abbrev pub is_large : Mark → Bool
is_large mark.Large = true
is_large mark.Verified = false
is_large mark.Unverified = false
is_large mark.Marker = false

-- the version stands and passes the test
abbrev pub stands : {C : Type 0} → State C → VersionId → (VersionOf C → Bool) → Bool
stands M id test = some_and test (version_at M id.bucket id.num)

-- the bucket stands, and the number is free
abbrev pub may_make : {C : Type 0} → State C → ℕ → ℕ → Bool
may_make M bucket num = is_some (bucket_at M bucket) && not (num == 0) && not (list_any (λ v. v.num == num) M.versions)

-- no other bucket has the name, and the rules are such as a bucket may have
abbrev pub may_be : {C : Type 0} → State C → Bucket → Bool
may_be M b = not (list_any (λ a. not (a.num == b.num) && is_same_name a.name b.name) M.buckets) && are_rules b.rules

abbrev pub is_number : ℕ → Bool
is_number n = not (n == 0) && nat_lt n number_end

-- the change applies; the settings stand first and nowhere else
abbrev pub applies_change : {C : Type 0} → State C → ChangeOf C → Bool
applies_change M (change.Settings s) = false
applies_change M (change.Boot n) = nat_lt M.boot n
applies_change M change.Pass = true
applies_change M (change.BucketMake b) = is_number b.num && is_none (bucket_at M b.num) && may_be M b
applies_change M (change.BucketUpdate b) = is_some (bucket_at M b.num) && may_be M b
applies_change M (change.BucketDrop n) = is_some (bucket_at M n) && not (list_any (λ v. v.bucket == n) M.versions)
applies_change M (change.Upload v content m digest) = may_make M v.bucket v.num
applies_change M (change.Hide id name) = may_make M id.bucket id.num
applies_change M (change.Start v) = may_make M v.bucket v.num
applies_change M (change.PartPut id n content m digest) = stands M id (λ v. is_start v.action)
applies_change M (change.Finish id retention) = stands M id (λ v. is_start v.action)
applies_change M (change.Cancel id) = stands M id (λ v. is_start v.action)
applies_change M (change.VersionDrop id) = stands M id (λ v. true)
applies_change M (change.Retain id retention) = stands M id (λ v. is_upload v.action)
applies_change M (change.Hold id hold) = stands M id (λ v. is_upload v.action)
applies_change M (change.KeyMake k) = is_number k.num && is_none (key_at M k.num)
applies_change M (change.KeyDrop n) = not (n == 0) && is_some (key_at M n)
applies_change M (change.SnapState n) = nat_le M.next_bucket n.next_bucket && nat_le M.next_key n.next_key && nat_le M.next_version n.next_version
applies_change M (change.SnapLarge v) = may_make M v.bucket v.num
applies_change M (change.SnapExtents id pieces) = stands M id (λ v. is_large v.mark && is_upload v.action)

abbrev pub is_snap_state : {C : Type 0} → ChangeOf C → Bool
is_snap_state (change.SnapState n) = true
is_snap_state other = false

-- ---- replay

-- the state so far, and whether the numbers of a snapshot came; they come once, and after them moments
-- never fall
pub record Replayed (C : Type 0) : Type 0 where
  pub state : State C
  pub settled : Bool

abbrev pub applies : {C : Type 0} → Replayed C → RecordOf C → Bool
applies R r = applies_change R.state r.change && not (R.settled && (is_snap_state r.change || nat_lt r.at R.state.kept))

abbrev pub replay_one : {C : Type 0} → Replayed C → RecordOf C → Replayed C
replay_one R r = record { state = after_record R.state r; settled = R.settled || is_snap_state r.change }

-- the records that follow the settings, where each applies
abbrev pub replay_on : {C : Type 0} → Replayed C → List (RecordOf C) → Option (Replayed C)
replay_on R [] = Some R
replay_on R (r ∷ rs) = if applies R r then replay_on (replay_one R r) rs else None

abbrev pub replay_from : {C : Type 0} → ℕ → ChangeOf C → List (RecordOf C) → Option (Replayed C)
replay_from t (change.Settings s) rs = replay_on (record { state = state_of_settings s t; settled = false }) rs
replay_from t other rs = None

-- what the records stand for; the settings are the first
abbrev pub replay : {C : Type 0} → List (RecordOf C) → Option (State C)
replay [] = None
replay (r ∷ rs) = option_map (λ R. R.state) (replay_from r.at r.change rs)

-- ---- snapshot

abbrev pub as_new : {C : Type 0} → VersionOf C → NewVersion
as_new v = record {
  bucket = v.bucket;
  num = v.num;
  name = v.name;
  kind = v.kind;
  info = v.info;
  retention = v.retention;
  hold = v.hold;
}

abbrev pub record_at : {C : Type 0} → ℕ → ChangeOf C → RecordOf C
record_at t c = record { at = t; change = c }

-- pieces of a list, of so many items each; the first number bounds how many pieces there are
abbrev pub pieces_of : {X : Type 0} → ℕ → ℕ → List X → List (List X)
pieces_of zero n xs = []
pieces_of (suc k) n xs = if is_empty xs then [] else take n xs ∷ pieces_of k n (drop n xs)

abbrev pub part_record : {C : Type 0} → VersionOf C → PartOf C → RecordOf C
part_record v p = record_at p.stamp (change.PartPut (id_of v) p.number p.content p.mark p.digest)

abbrev pub large_records : {C : Type 0} → VersionOf C → List (RecordOf C)
large_records v = record_at v.stamp (change.SnapLarge (as_new v))
    ∷ map (λ pieces. record_at v.stamp (change.SnapExtents (id_of v) pieces)) (pieces_of (length v.content) 2000 v.content)

-- an upload has one piece
abbrev pub upload_records : {C : Type 0} → VersionOf C → List (RecordOf C)
upload_records v = map (λ content. record_at v.stamp (change.Upload (as_new v) content v.mark v.digest)) v.content

abbrev pub version_records : {C : Type 0} → VersionOf C → List (RecordOf C)
version_records v =
    if is_start v.action then record_at v.stamp (change.Start (as_new v)) ∷ map (part_record v) v.parts
    else (if is_hide v.action then record_at v.stamp (change.Hide (id_of v) v.name) ∷ []
    else (if is_large v.mark then large_records v else upload_records v))

abbrev pub numbers_of : {C : Type 0} → State C → Numbers
numbers_of S = record { pass_day = S.pass_day; boot = S.boot; next_bucket = S.next_bucket; next_key = S.next_key; next_version = S.next_version }

abbrev pub snapshot : {C : Type 0} → State C → List (RecordOf C)
snapshot S =
    record_at S.now (change.Settings S.settings)
    ∷ map (λ b. record_at S.now (change.BucketMake b)) S.buckets
    ++ flat_map version_records S.versions
    ++ map (λ k. record_at S.now (change.KeyMake k)) (filter (λ k. not (k.num == 0)) S.keys)
    ++ record_at S.now (change.SnapState (numbers_of S)) ∷ []
