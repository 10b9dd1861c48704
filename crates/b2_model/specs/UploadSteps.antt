-- An upload begins at the end of its head, and ends with its last byte or is lost with its connection (the
-- B2 reference, b2_upload_file and b2_upload_part). What an upload needs is judged when it begins, and
-- again when it ends.
use Rattle.std.specs.Prelude.{ℕ, Bool, true, false, not, ◌&&◌, ◌==◌, List, [], ◌∷◌, ◌++◌, Option, Some, None, filter, find, bytes_eq, unwrap_or}
use Rattle.std.specs.Option.{is_none}
use Rattle.std.specs.List.{list_any}
use Rattle.rule_table.specs.declared.fault.FaultKind.TheVariants.{NoBucket, NoFile, Busy, BadDigest}
use Rattle.b2_types.specs.declared.kinds.Action.TheVariants as action
use Rattle.b2_types.specs.declared.kinds.Mark.{Mark}
use Rattle.b2_types.specs.declared.kinds.Mark.TheVariants as mark
use Rattle.b2_types.specs.declared.fault.Fault.{Fault}
use Rattle.b2_types.specs.declared.bucket.Bucket.{Bucket}
use Rattle.b2_types.specs.declared.key.Flight.{Flight}
use Rattle.b2_types.specs.declared.version.VersionOf.{VersionOf}
use Rattle.b2_types.specs.declared.upload.DigestRule.{DigestRule}
use Rattle.b2_types.specs.declared.upload.DigestRule.TheVariants as rule
use Rattle.b2_types.specs.declared.upload.FileUpload.{FileUpload}
use Rattle.b2_types.specs.declared.upload.UploadCall.{UploadCall}
use Rattle.b2_types.specs.declared.upload.UploadCall.TheVariants as upload
use Rattle.b2_types.specs.declared.record.NewVersion.{NewVersion}
use Rattle.b2_types.specs.declared.record.ChangeOf.TheVariants as change
use Rattle.b2_types.specs.declared.shown.Shown.TheVariants as shown
use Rattle.b2_types.specs.declared.fault.Target.{Target}
use Rattle.b2_types.specs.declared.fault.Target.TheVariants as target
use Rattle.b2_types.specs.declared.key.Key.{Key}
use Rattle.b2_types.specs.declared.key.Grant.{Grant}
use Rattle.b2_types.specs.declared.upload.PartUpload.{PartUpload}
use Rattle.b2_types.specs.Need.{need}
use Rattle.b2_model.specs.Checks.{Check, check, first_fault, some_and}
use Rattle.b2_model.specs.State.{State, bucket_at}
use Rattle.b2_model.specs.Rows.{version_at}
use Rattle.b2_model.specs.Lists.{put_by}
use Rattle.b2_model.specs.MediaTypes.{resolved_type}
use Rattle.b2_model.specs.Policy.{Caller, caller_of, token_rules, policy_rules, judged_upload}
use Rattle.b2_model.specs.Locks.{own_or_default}
use Rattle.b2_model.specs.Version.{version_from}
use Rattle.b2_model.specs.Shown.{shown_file, shown_part}
use Rattle.b2_model.specs.Plan.{Plan, writes, on_bucket, on_file, id_of, no_version, lock_off, bad_until}
use Rattle.b2_model.specs.AskLarge.{not_large}
use Rattle.b2_model.specs.Ask.{Outcome, bad_plan, outcome_or_refusal, at_moment}
pub use Rattle.b2_model.specs.Body.{Body, agrees, body_of}

-- ---- the policy

-- the grant is one for the path
abbrev pub fits : Target → Grant → Bool
fits target.Nothing g = true
fits (target.Bucket bucket) g = g.bucket == bucket
fits (target.File bucket file) g = g.bucket == bucket && g.file == file

-- what the path of an upload names
abbrev pub target_of : UploadCall → Target
target_of (upload.File u) = target.Bucket u.bucket
target_of (upload.Part u) = target.File u.bucket u.file
target_of (upload.Bad c) = c.target

-- one that is amiss reaches the token's rules alone
abbrev pub upload_rules : {C : Type 0} → State C → ℕ → Caller → UploadCall → List Check → List Check
upload_rules M t who (upload.Bad c) exists = token_rules t (need c.name).tokens (fits c.target) who
upload_rules M t who u exists = policy_rules M t (judged_upload u) (fits (target_of u)) who exists

-- ---- begin

-- another upload is under way on the token
abbrev pub busy : {C : Type 0} → State C → Option (List ℕ) → Check
busy M token = check Busy (list_any (λ f. some_and (bytes_eq f.token) token) M.flights)

-- that what the upload names stands
abbrev pub upload_exists : {C : Type 0} → State C → UploadCall → List Check
upload_exists M (upload.File u) = check NoBucket (is_none (bucket_at M u.bucket)) ∷ []
upload_exists M (upload.Part u) = check NoFile (is_none (version_at M u.bucket u.file)) ∷ []
upload_exists M (upload.Bad b) = []

abbrev pub lock_of : Option Bucket → Bool
lock_of None = false
lock_of (Some b) = b.lock

abbrev pub large_of : {C : Type 0} → Option (VersionOf C) → List Check
large_of None = []
large_of (Some v) = not_large v ∷ []

abbrev pub begin_rules : {C : Type 0} → State C → ℕ → Option (List ℕ) → UploadCall → List Check
begin_rules M t token (upload.File u) =
    busy M token ∷ lock_off u.retention u.hold (lock_of (bucket_at M u.bucket)) ∷ bad_until t u.retention ∷ no_version M ∷ []
begin_rules M t token (upload.Part u) = busy M token ∷ large_of (version_at M u.bucket u.file)
begin_rules M t token (upload.Bad c) = record { fails = true; fault = c.fault } ∷ []

abbrev pub begin_refusals : {C : Type 0} → State C → ℕ → Option (List ℕ) → UploadCall → List Check
begin_refusals M t token u = upload_rules M t (caller_of M token) u (upload_exists M u) ++ begin_rules M t token u

-- the state after a begin, and the fault where it is refused
pub record Begun (C : Type 0) : Type 0 where
  pub state : State C
  pub fault : Option Fault

abbrev pub new_flight : ℕ → Option (List ℕ) → UploadCall → Flight
new_flight conn token u = record { conn = conn; token = unwrap_or token []; upload = u }

abbrev pub begin_as : {C : Type 0} → State C → ℕ → ℕ → Option (List ℕ) → UploadCall → Option Fault → Begun C
begin_as M t conn token u (Some fault) = record { state = at_moment M t; fault = Some fault }
begin_as M t conn token u None = record {
  state = record (at_moment M t) { flights = put_by (λ f. f.conn) (new_flight conn token u) M.flights };
  fault = None;
}

abbrev pub begin : {C : Type 0} → State C → ℕ → ℕ → Option (List ℕ) → UploadCall → Begun C
begin M t conn token u = begin_as M t conn token u (first_fault (begin_refusals M t token u))

-- ---- end

abbrev pub mark_of : DigestRule → Mark
mark_of (rule.Given digest) = mark.Verified
mark_of rule.AtEnd = mark.Verified
mark_of rule.NotVerified = mark.Unverified

abbrev pub new_upload : {C : Type 0} → State C → ℕ → Bucket → FileUpload → NewVersion
new_upload M t b u = record {
  bucket = u.bucket;
  num = M.next_version;
  name = u.name;
  kind = resolved_type u.kind u.name;
  info = u.info;
  retention = own_or_default t u.retention b.default;
  hold = u.hold;
}

abbrev pub file_end : {C : Type 0} → (C → ℕ) → State C → ℕ → Option Key → Body C → FileUpload → Bucket → Plan C
file_end size M t key body u b = writes
    (lock_off u.retention u.hold b.lock ∷ bad_until t u.retention ∷ check BadDigest (not (agrees u.digest body)) ∷ no_version M ∷ [])
    (change.Upload (new_upload M t b u) body.content (mark_of u.digest) body.digest)
    (shown.File (shown_file size M.settings key (version_from t action.Upload (body.content ∷ []) (mark_of u.digest) body.digest (new_upload M t b u))))

abbrev pub part_end : {C : Type 0} → (C → ℕ) → ℕ → Body C → PartUpload → VersionOf C → Plan C
part_end size t body u v = writes
    (not_large v ∷ check BadDigest (not (agrees u.digest body)) ∷ [])
    (change.PartPut (id_of v) u.number body.content (mark_of u.digest) body.digest)
    (shown.Part (shown_part size u.bucket u.file (record { number = u.number; content = body.content; mark = mark_of u.digest; digest = body.digest; stamp = t })))

abbrev pub end_plan : {C : Type 0} → (C → ℕ) → State C → ℕ → Option Key → Body C → UploadCall → Plan C
end_plan size M t key body (upload.File u) = on_bucket M u.bucket (file_end size M t key body u)
end_plan size M t key body (upload.Part u) = on_file M u.bucket u.file (part_end size t body u)
end_plan size M t key body (upload.Bad c) = bad_plan c.fault

abbrev pub flight_of : {C : Type 0} → State C → ℕ → Option Flight
flight_of M conn = find (λ f. f.conn == conn) M.flights

-- the upload of the connection is under way no longer
abbrev pub without_flight : {C : Type 0} → State C → ℕ → ℕ → State C
without_flight M t conn = record M { now = t; flights = filter (λ f. not (f.conn == conn)) M.flights }

abbrev pub end_of : {C : Type 0} → (C → ℕ) → State C → ℕ → Body C → List ℕ → UploadCall → List ℕ → Outcome C
end_of size M t body token u words =
    let who = caller_of M (Some token) in
    let p = end_plan size M t who.key body u in
    outcome_or_refusal M t words p (first_fault (upload_rules M t who u p.exists ++ p.own))

-- The flight is gone, and what its upload needs is judged again.
abbrev pub end : {C : Type 0} → (C → ℕ) → State C → ℕ → Flight → Body C → List ℕ → Outcome C
end size M t f body words = end_of size (without_flight M t f.conn) t body f.token f.upload words
