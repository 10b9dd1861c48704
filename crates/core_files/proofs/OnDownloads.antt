-- What downloads come to.
use Rattle.std.proofs.Common.{◌≡◌, ℕ, Bool, true, false, if◌then◌else◌, List, [], ◌++◌, Option, Some, None, refl, ap, ◌∙◌}
use Rattle.b2_base.specs.declared.extent.Extent.{Extent}
use Rattle.rule_table.specs.declared.fault.FaultKind.TheVariants.{NoFile}
use Rattle.b2_types.specs.declared.bucket.Bucket.{Bucket}
use Rattle.b2_types.specs.declared.call.Call.{Call}
use Rattle.b2_types.specs.declared.call.Call.TheVariants as call
use Rattle.b2_types.specs.declared.call.ByteRange.{ByteRange}
use Rattle.b2_types.specs.declared.call.DownloadById.{DownloadById}
use Rattle.b2_types.specs.declared.call.DownloadByName.{DownloadByName}
use Rattle.b2_types.specs.declared.key.Key.{Key}
use Rattle.b2_types.specs.declared.version.VersionOf.{VersionOf}
use Rattle.b2_model.specs.Ask.{first_rules}
use Rattle.b2_model.specs.AskDownloads.{content, download_by_id, download_by_name, or_refused}
use Rattle.b2_model.specs.Checks.{Check, first_fault, some_and}
use Rattle.b2_model.specs.Current.{current}
use Rattle.b2_model.specs.Plan.{Plan, answers, or_absent}
use Rattle.b2_model.specs.Policy.{bucket_named, caller_of}
use Rattle.b2_model.specs.Rows.{version_at}
use Rattle.b2_model.specs.State.{State, bucket_at}
use Rattle.new_versions.specs.Decided.{extent_len}
use Rattle.core_decisions.specs.declared.decision.Decision.{Decision}
use Rattle.core_decisions.specs.Decided.{IsDecision}
use Rattle.core_decisions.proofs.Forms.{Form}
use Rattle.core_files.specs.Replied.{replied}
use Rattle.core_files.proofs.Answered.{replied_is}

-- by whose key it is shown, for anybody or for who asks
abbrev key_when : State Extent → Option (List ℕ) → Bool → Option Key
key_when M token anybody = if anybody then None else (caller_of M token).key

-- all refusals of a plan
abbrev refusals_when : State Extent → ℕ → Option (List ℕ) → Call → (Bool → Plan Extent) → Bool → List Check
refusals_when M t token c plan anybody = (if anybody then (plan anybody).exists else first_rules M t (caller_of M token) c (plan anybody).exists) ++ (plan anybody).own

-- ---- what is shown of a version that may be missing

abbrev pub may_miss : State Extent → Option Key → Option ByteRange → Option (VersionOf Extent) → Plan Extent
may_miss M key range v = or_refused NoFile (content extent_len M key range) v

pub it_answers : (M : State Extent) (key : Option Key) (range : Option ByteRange) (v : Option (VersionOf Extent)) → may_miss M key range v ≡ answers (may_miss M key range v).own (may_miss M key range v).answer
it_answers M key range None = refl
it_answers M key range (Some v) = refl

pub quiet_of : (M : State Extent) (key : Option Key) (range : Option ByteRange) (v : Option (VersionOf Extent)) → (may_miss M key range v).exists ≡ []
quiet_of M key range None = refl
quiet_of M key range (Some v) = refl

one_fault : (M : State Extent) (key : Option Key) (range : Option ByteRange) (v : Option (VersionOf Extent))
    → first_fault ((or_absent NoFile (content extent_len M key range) v).exists ++ (or_absent NoFile (content extent_len M key range) v).own) ≡ first_fault (may_miss M key range v).own
one_fault M key range None = refl
one_fault M key range (Some v) = refl

one_plan : (M : State Extent) (key : Option Key) (range : Option ByteRange) (v : Option (VersionOf Extent)) → None ≡ first_fault (may_miss M key range v).own
    → or_absent NoFile (content extent_len M key range) v ≡ answers (may_miss M key range v).own (may_miss M key range v).answer
one_plan M key range None none = absurd (cc none)
one_plan M key range (Some v) none = refl

-- ---- by id

abbrev plan_by_id : State Extent → Option (List ℕ) → DownloadById → Bool → Plan Extent
plan_by_id M token c anybody = download_by_id extent_len M (key_when M token anybody) c

abbrev pub id_form : (M : State Extent) (t : ℕ) (token : Option (List ℕ)) (c : DownloadById) → some_and (λ b. b.public) (bucket_at M c.bucket) ≡ false → Form M t token (call.DownloadFileById c) (VersionOf Extent)
id_form M t token c closed = record {
  absent = NoFile;
  thing = version_at M c.bucket c.file;
  plan = λ copy words v. content extent_len M (caller_of M token).key c.range v;
  quiet = λ copy words v. refl;
  refusals = λ copy words. ap (refusals_when M t token (call.DownloadFileById c) (plan_by_id M token c)) closed;
  is = λ copy words. ap (plan_by_id M token c) closed;
}

pub open_id : (M : State Extent) (t : ℕ) (token : Option (List ℕ)) (c : DownloadById) (d : Decision) → some_and (λ b. b.public) (bucket_at M c.bucket) ≡ true
    → d ≡ replied (may_miss M None c.range (version_at M c.bucket c.file)) → IsDecision M t token (call.DownloadFileById c) d
open_id M t token c d anybody is =
    let v = version_at M c.bucket c.file in
    replied_is M t token (call.DownloadFileById c) (may_miss M None c.range v).own (may_miss M None c.range v).answer d is
    (λ copy words. ap (λ o. first_fault (refusals_when M t token (call.DownloadFileById c) (plan_by_id M token c) o)) anybody ∙ one_fault M None c.range v)
    (λ none copy words. ap (plan_by_id M token c) anybody ∙ one_plan M None c.range v none)

-- ---- by name

abbrev plan_by_name : State Extent → Option (List ℕ) → DownloadByName → Bool → Plan Extent
plan_by_name M token c anybody = download_by_name extent_len M (key_when M token anybody) c

abbrev pub name_form : (M : State Extent) (t : ℕ) (token : Option (List ℕ)) (c : DownloadByName) → some_and (λ b. b.public) (bucket_named M c.bucket) ≡ false → Form M t token (call.DownloadFileByName c) Bucket
name_form M t token c closed = record {
  absent = NoFile;
  thing = bucket_named M c.bucket;
  plan = λ copy words b. may_miss M (caller_of M token).key c.range (current M b.num c.name);
  quiet = λ copy words b. quiet_of M (caller_of M token).key c.range (current M b.num c.name);
  refusals = λ copy words. ap (refusals_when M t token (call.DownloadFileByName c) (plan_by_name M token c)) closed;
  is = λ copy words. ap (plan_by_name M token c) closed;
}

pub open_name : (M : State Extent) (t : ℕ) (token : Option (List ℕ)) (c : DownloadByName) (b : Bucket) (d : Decision) → bucket_named M c.bucket ≡ Some b → b.public ≡ true
    → d ≡ replied (may_miss M None c.range (current M b.num c.name)) → IsDecision M t token (call.DownloadFileByName c) d
open_name M t token c b d found public is =
    let p = may_miss M None c.range (current M b.num c.name) in
    let anybody : some_and (λ b. b.public) (bucket_named M c.bucket) ≡ true = ap (some_and (λ b. b.public)) found ∙ public in
    let plan = λ (o : Option Bucket). or_absent NoFile (λ b. may_miss M None c.range (current M b.num c.name)) o in
    replied_is M t token (call.DownloadFileByName c) p.own p.answer d is
    (λ copy words.
    ap (λ o. first_fault (refusals_when M t token (call.DownloadFileByName c) (plan_by_name M token c) o)) anybody
    ∙ ap (λ o. first_fault ((plan o).exists ++ (plan o).own)) found
    ∙ ap (λ e. first_fault (e ++ p.own)) (quiet_of M None c.range (current M b.num c.name)))
    (λ none copy words. ap (plan_by_name M token c) anybody ∙ ap plan found ∙ it_answers M None c.range (current M b.num c.name))
