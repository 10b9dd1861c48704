-- The store of the worked rows: made at moment 0 and opened once, with a least part of 10 bytes.
use Rattle.std.specs.Prelude.{ℕ, ◌+◌, ◌^◌, Bool, true, false, List, [], ◌∷◌, Option, Some, None, codes, map, fold}
use Rattle.sha2.specs.Sha256.{sha256}
use Rattle.b2_base.specs.declared.settings.Settings.{Settings}
use Rattle.b2_types.specs.declared.kinds.TokenKind.TheVariants as token
use Rattle.b2_types.specs.declared.kinds.Action.TheVariants as action
use Rattle.b2_types.specs.declared.kinds.Mark.{Mark}
use Rattle.b2_types.specs.declared.kinds.Mark.TheVariants as mark
use Rattle.b2_types.specs.declared.kinds.Mode.TheVariants.{Governance}
use Rattle.b2_types.specs.declared.kinds.Retention.{Retention}
use Rattle.b2_types.specs.declared.bucket.Bucket.{Bucket}
use Rattle.b2_types.specs.declared.version.VersionOf.{VersionOf}
use Rattle.b2_types.specs.declared.record.NewVersion.{NewVersion}
use Rattle.b2_types.specs.declared.record.VersionId.{VersionId}
use Rattle.b2_types.specs.declared.key.Grant.{Grant}
use Rattle.b2_types.specs.declared.fault.Fault.{Fault}
use Rattle.b2_types.specs.declared.call.Call.{Call}
use Rattle.b2_types.specs.declared.answer.AnswerOf.{AnswerOf}
use Rattle.b2_types.specs.declared.answer.AnswerOf.TheVariants as answer
use Rattle.b2_model.specs.State.{State}
use Rattle.b2_model.specs.Version.{no_digest, version_from, with_version}
use Rattle.b2_model.specs.Changes.{new_store}
use Rattle.b2_model.specs.Run.{with_restart, of_bytes}
use Rattle.b2_model.specs.Ask.{Outcome, ask}

-- contents are lists of bytes
abbrev pub Bytes : Type 0
Bytes = List ℕ

abbrev pub settings : Settings
settings = record {
  account = codes "a1b2c3d4e5f6";
  secret_hash = sha256 (codes "mastersecret01");
  url = codes "http://127.0.0.1:8080";
  part_min = 10;
  last_version = 9007199254740991;
  area_end = 2 ^ 56;
}

abbrev pub open_store : State Bytes
open_store = with_restart (new_store settings 0) 0

-- the account token of the master key that the rows use
abbrev pub master_token : List ℕ
master_token = codes "master"

abbrev pub master_grant : Grant
master_grant = record { text = master_token; kind = token.Account; key = 0; bucket = 0; file = 0; prefix = []; end = 86400000 }

abbrev pub master : Option (List ℕ)
master = Some master_token

abbrev pub store : State Bytes
store = record open_store { grants = master_grant ∷ []; serial = 1 }

abbrev pub words : List ℕ
words = 1 ∷ 2 ∷ 3 ∷ 4 ∷ []

-- a call with this token
abbrev pub by_token : State Bytes → ℕ → Option (List ℕ) → Call → Outcome Bytes
by_token M t token c = ask of_bytes M t words token c

-- a call with the token of the master key
abbrev pub by_master : State Bytes → ℕ → Call → Outcome Bytes
by_master M t c = by_token M t master c

-- the fault that is answered, where one is
abbrev pub refusal : {C : Type 0} → AnswerOf C → Option Fault
refusal (answer.Refused fault) = Some fault
refusal other = None

abbrev pub account : List ℕ
account = codes "a1b2c3d4e5f6"

-- a bucket without rules
abbrev pub bucket_of : ℕ → List ℕ → Bool → Bucket
bucket_of num name lock = record { num = num; name = name; public = false; revision = 1; lock = lock; default = None; info = []; rules = [] }

abbrev pub photos_1 : Bucket
photos_1 = bucket_of 1 (codes "photos-1") false

abbrev pub lock_bucket : Bucket
lock_bucket = bucket_of 1 (codes "photos-1") true

-- the store with this bucket
abbrev pub with_bucket : Bucket → State Bytes
with_bucket b = record store { buckets = b ∷ []; next_bucket = b.num + 1 }

abbrev pub plain_type : List ℕ
plain_type = codes "text/plain"

-- a new version of bucket 1, without information, retention or hold
abbrev pub version_of : ℕ → List ℕ → NewVersion
version_of num name = record { bucket = 1; num = num; name = name; kind = plain_type; info = []; retention = None; hold = false }

-- an upload of the content at the moment; its digest is not computed here
abbrev pub upload_at : ℕ → ℕ → List ℕ → Bytes → VersionOf Bytes
upload_at t num name content = version_from t action.Upload (content ∷ []) mark.Verified no_digest (version_of num name)

abbrev pub start_at : ℕ → ℕ → List ℕ → VersionOf Bytes
start_at t num name = version_from t action.Start [] mark.Large no_digest (version_of num name)

abbrev pub with_versions : List (VersionOf Bytes) → State Bytes → State Bytes
with_versions vs M = fold (λ N v. with_version v N) M vs

abbrev pub id_in : ℕ → VersionId
id_in num = record { bucket = 1; num = num }

-- ---- what the versions of a state have, by their numbers

abbrev pub numbers_in : State Bytes → List ℕ
numbers_in M = map (λ v. v.num) M.versions

abbrev pub stamps_in : State Bytes → List ℕ
stamps_in M = map (λ v. v.stamp) M.versions

abbrev pub contents_in : State Bytes → List (List Bytes)
contents_in M = map (λ v. v.content) M.versions

abbrev pub digests_in : State Bytes → List (List ℕ)
digests_in M = map (λ v. v.digest) M.versions

abbrev pub marks_in : State Bytes → List Mark
marks_in M = map (λ v. v.mark) M.versions

abbrev pub retentions_in : State Bytes → List (Option Retention)
retentions_in M = map (λ v. v.retention) M.versions

abbrev pub part_numbers_in : State Bytes → List (List ℕ)
part_numbers_in M = map (λ v. map (λ p. p.number) v.parts) M.versions

abbrev pub part_contents_in : State Bytes → List (List Bytes)
part_contents_in M = map (λ v. map (λ p. p.content) v.parts) M.versions

-- governance until the moment
abbrev pub governance_until : ℕ → Option Retention
governance_until t = Some (record { mode = Governance; until = t })
