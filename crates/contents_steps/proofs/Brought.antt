-- What holds of each content of a state, and of each that a step brings, holds of each after it.
use Rattle.std.proofs.Common.{◌≡◌, ◌⊎◌, inl, inr, ℕ, ◌/◌, nat_lt, Bool, true, false, List, [], ◌∷◌, ◌++◌, All, Contains, Option, Some, None, option_map, option_and_then, unwrap_or, if◌then◌else◌, refl, sym, subst}
use Rattle.std.specs.Option.{is_some}
use Rattle.std.proofs.lemmas.List.Elements.{All-nil, All-contains, All-contains_itself, All-head, All-weaker}
use Rattle.rule_table.specs.declared.fault.FaultKind.{FaultKind}
use Rattle.rule_table.specs.declared.fault.FaultKind.TheVariants.{NoBucket, NoFile, NoKey}
use Rattle.b2_types.specs.declared.bucket.Bucket.{Bucket}
use Rattle.b2_types.specs.declared.key.Key.{Key}
use Rattle.b2_types.specs.declared.key.Grant.{Grant}
use Rattle.b2_types.specs.declared.key.Flight.{Flight}
use Rattle.b2_types.specs.declared.fault.Fault.{Fault}
use Rattle.b2_types.specs.declared.call.Call.{Call}
use Rattle.b2_types.specs.declared.call.Call.TheVariants as call
use Rattle.b2_types.specs.declared.call.CopyFile.{CopyFile}
use Rattle.b2_types.specs.declared.call.CopyPart.{CopyPart}
use Rattle.b2_types.specs.declared.upload.UploadCall.{UploadCall}
use Rattle.b2_types.specs.declared.upload.UploadCall.TheVariants as upload
use Rattle.b2_types.specs.declared.record.ChangeOf.{ChangeOf}
use Rattle.b2_types.specs.declared.record.ChangeOf.TheVariants as change
use Rattle.b2_types.specs.declared.version.VersionOf.{VersionOf}
use Rattle.b2_model.specs.Kinds.{day}
use Rattle.b2_model.specs.Body.{Body}
use Rattle.b2_model.specs.Checks.{first_fault}
use Rattle.b2_model.specs.State.{State, Pieces, bucket_at}
use Rattle.b2_model.specs.Rows.{version_at}
use Rattle.b2_model.specs.Current.{current as newest}
use Rattle.b2_model.specs.Policy.{items, caller_of, key_by, bucket_named}
use Rattle.b2_model.specs.Plan.{Plan, or_absent}
use Rattle.b2_model.specs.AskKeys.{authorize_plan, drop_key, key_of_id}
use Rattle.b2_model.specs.AskDownloads.{content, or_refused}
use Rattle.b2_model.specs.AskCopies.{copy_body, file_copy_on, part_copy_on}
use Rattle.b2_model.specs.Ask.{plan, plan_of, shown_by, refusals_of, at_moment, with_change, with_grant, outcome_or_refusal}
use Rattle.b2_model.specs.UploadSteps.{begin_as, begin_refusals, end, end_plan, file_end, part_end, upload_rules, without_flight, flight_of}
use Rattle.b2_model.specs.Run.{Step, asks, begins, ends, loses, passes, restarts, Progress, moment, with_pass, start_of, with_state, with_end, begin_step, answer_to, state_after, step}
use Rattle.machine_laws.proofs.Moments.{answer_state}
use Rattle.contents_agree.specs.ContentsOf.{contents_of, brought}
use Rattle.contents_agree.proofs.Each.{each_after}
use Rattle.contents_steps.specs.Copies.{copy_made, brought_by}

module _ {C : Type 0} (P : C → Type 0) where
  -- each content of the state
  abbrev Each : State C → Type 0
  Each M = All P (contents_of M)

  -- ---- what a call writes

  abbrev brought_in : Option (ChangeOf C) → List C
  brought_in None = []
  brought_in (Some ch) = brought ch

  abbrev Brings : Plan C → Type 0
  Brings p = All P (brought_in p.change)

  there : {X : Type 0} (kind : FaultKind) (p : X → Plan C) (o : Option X) → ((x : X) → Brings (p x)) → Brings (or_absent kind p o)
  there kind p None each = All-nil P
  there kind p (Some x) each = each x

  current : (p : VersionOf C → Plan C) (o : Option (VersionOf C)) → ((v : VersionOf C) → Brings (p v)) → Brings (or_refused NoFile p o)
  current p None each = All-nil P
  current p (Some v) each = each v

  -- of what a copy makes
  abbrev Copied : Option (Body C) → Type 0
  Copied o = All P (items (option_map (λ b. b.content) o))

  file_copied : (K : Pieces C) (M : State C) (key : Option Key) (t : ℕ) (c : CopyFile) (b : Option Bucket) (v : Option (VersionOf C)) → Copied (option_map (λ v. copy_body K v c.range) v) → Brings (file_copy_on K M key t c b v)
  file_copied K M key t c None v new = All-nil P
  file_copied K M key t c (Some b) None new = All-nil P
  file_copied K M key t c (Some b) (Some v) new = new

  part_copied : (K : Pieces C) (t : ℕ) (c : CopyPart) (v large : Option (VersionOf C)) → Copied (option_map (λ v. copy_body K v c.range) v) → Brings (part_copy_on K t c v large)
  part_copied K t c None large new = All-nil P
  part_copied K t c (Some v) None new = All-nil P
  part_copied K t c (Some v) (Some large) new = new

  plan_brings : (K : Pieces C) (M : State C) (t : ℕ) (words : List ℕ) (key : Option Key) (c : Call) → Copied (copy_made K M c) → Brings (plan K M t words key c)
  plan_brings K M t words key (call.AuthorizeAccount c) new = there _ (authorize_plan c.version M t words) (option_and_then (key_by M) c.credentials) (λ k. All-nil P)
  plan_brings K M t words key (call.CreateBucket c) new = All-nil P
  plan_brings K M t words key (call.UpdateBucket c) new = there NoBucket _ (bucket_at M c.bucket) (λ b. All-nil P)
  plan_brings K M t words key (call.DeleteBucket c) new = there NoBucket _ (bucket_at M c.bucket) (λ b. All-nil P)
  plan_brings K M t words key (call.ListBuckets c) new = All-nil P
  plan_brings K M t words key (call.CreateKey c) new = All-nil P
  plan_brings K M t words key (call.DeleteKey c) new = there NoKey (drop_key c.version M) (key_of_id M c.key) (λ k. All-nil P)
  plan_brings K M t words key (call.ListKeys c) new = All-nil P
  plan_brings K M t words key (call.GetUploadUrl c) new = there NoBucket _ (bucket_at M c.bucket) (λ b. All-nil P)
  plan_brings K M t words key (call.StartLargeFile c) new = there NoBucket _ (bucket_at M c.bucket) (λ b. All-nil P)
  plan_brings K M t words key (call.GetUploadPartUrl c) new = there NoFile _ (version_at M c.bucket c.file) (λ v. All-nil P)
  plan_brings K M t words key (call.ListParts c) new = there NoFile _ (version_at M c.bucket c.file) (λ v. All-nil P)
  plan_brings K M t words key (call.FinishLargeFile c) new = there NoFile _ (version_at M c.bucket c.file) (λ v. All-nil P)
  plan_brings K M t words key (call.CancelLargeFile c) new = there NoFile _ (version_at M c.bucket c.file) (λ v. All-nil P)
  plan_brings K M t words key (call.ListUnfinishedLargeFiles c) new = there NoBucket _ (bucket_at M c.bucket) (λ b. All-nil P)
  plan_brings K M t words key (call.ListFileNames c) new = there NoBucket _ (bucket_at M c.bucket) (λ b. All-nil P)
  plan_brings K M t words key (call.ListFileVersions c) new = there NoBucket _ (bucket_at M c.bucket) (λ b. All-nil P)
  plan_brings K M t words key (call.GetFileInfo c) new = there NoFile _ (version_at M c.bucket c.file) (λ v. All-nil P)
  plan_brings K M t words key (call.HideFile c) new = there NoBucket _ (bucket_at M c.bucket) (λ b. All-nil P)
  plan_brings K M t words key (call.DeleteFileVersion c) new = there NoFile _ (version_at M c.bucket c.file) (λ v. All-nil P)
  plan_brings K M t words key (call.GetDownloadAuthorization c) new = there NoBucket _ (bucket_at M c.bucket) (λ b. All-nil P)
  plan_brings K M t words key (call.DownloadFileById c) new = there NoFile (content K.size M key c.range) (version_at M c.bucket c.file) (λ v. All-nil P)
  plan_brings K M t words key (call.DownloadFileByName c) new = there NoFile _ (bucket_named M c.bucket) (λ b. current (content K.size M key c.range) (newest M b.num c.name) (λ v. All-nil P))
  plan_brings K M t words key (call.UpdateFileRetention c) new = there NoFile _ (version_at M c.bucket c.file) (λ v. All-nil P)
  plan_brings K M t words key (call.UpdateFileLegalHold c) new = there NoFile _ (version_at M c.bucket c.file) (λ v. All-nil P)
  plan_brings K M t words key (call.CopyFile c) new = file_copied K M key t c (bucket_at M (unwrap_or c.bucket c.source.bucket)) (version_at M c.source.bucket c.source.num) new
  plan_brings K M t words key (call.CopyPart c) new = part_copied K t c (version_at M c.source.bucket c.source.num) (version_at M c.bucket c.file) new
  plan_brings K M t words key (call.Bad c) new = All-nil P

  end_brings : (size : C → ℕ) (M : State C) (t : ℕ) (key : Option Key) (body : Body C) (u : UploadCall) → All P (body.content ∷ []) → Brings (end_plan size M t key body u)
  end_brings size M t key body (upload.File u) new = there NoBucket (file_end size M t key body u) (bucket_at M u.bucket) (λ b. new)
  end_brings size M t key body (upload.Part u) new = there NoFile (part_end size t body u) (version_at M u.bucket u.file) (λ v. new)
  end_brings size M t key body (upload.Bad c) new = All-nil P

  -- ---- outcomes

  granted : (M : State C) (o : Option Grant) → Each M → Each (with_grant o M)
  granted M None each = each
  granted M (Some g) each = each

  recorded : (M : State C) (t : ℕ) (o : Option (ChangeOf C)) → Each M → All P (brought_in o) → Each (with_change (at_moment M t) t o)
  recorded M t None each new = each
  recorded M t (Some ch) each new = each_after P t ch (at_moment M t) each new

  outcome_each : (M : State C) (t : ℕ) (words : List ℕ) (p : Plan C) (o : Option Fault) → Each M → Brings p → Each (outcome_or_refusal M t words p o).state
  outcome_each M t words p (Some fault) each new = each
  outcome_each M t words p None each new = granted (with_change (at_moment M t) t p.change) p.grant (recorded M t p.change each new)

  begun_each : (M : State C) (t conn : ℕ) (token : Option (List ℕ)) (u : UploadCall) (o : Option Fault) → Each M → Each (begin_as M t conn token u o).state
  begun_each M t conn token u (Some fault) each = each
  begun_each M t conn token u None each = each

  end_each : (size : C → ℕ) (M : State C) (t : ℕ) (f : Flight) (body : Body C) (words : List ℕ) → Each M → All P (body.content ∷ []) → Each (end size M t f body words).state
  end_each size M t f body words each new =
      let N = without_flight M t f.conn in
      let who = caller_of N (Some f.token) in
      let p = end_plan size N t who.key body f.upload in
      outcome_each N t words p (first_fault (upload_rules N t who f.upload p.exists ++ p.own)) each (end_brings size N t who.key body f.upload new)

  -- ---- steps

  if_each : (b : Bool) (M N : State C) → Each M → Each N → Each (if b then M else N)
  if_each true M N first second = first
  if_each false M N first second = second

  pub start_each : (R : Progress C) (reading : ℕ) → Each R.state → Each (start_of R reading)
  start_each R reading each =
      let t = moment R.state reading in
      if_each (nat_lt R.state.pass_day (t / day)) (with_pass R.state t) R.state (each_after P t change.Pass R.state each (All-nil P)) each

  either_each : (b : Bool) (R S : Progress C) → Each R.state → Each S.state → Each (if b then R else S).state
  either_each true R S first second = first
  either_each false R S first second = second

  module _ (K : Pieces C) where
    with_end_each : (R : Progress C) (reading : ℕ) (body : Body C) (o : Option Flight) → Each R.state → All P (body.content ∷ []) → Each (with_end K R reading body o).state
    with_end_each R reading body None each new = each
    with_end_each R reading body (Some f) each new = end_each K.size (start_of R reading) (moment R.state reading) f body R.words (start_each R reading each) new

    after_each : (R : Progress C) (s : Step C) → Each R.state → All P (brought_by K R s) → Each (state_after K R s).state
    after_each R (asks reading token c) each new =
        let M = start_of R reading in
        let t = moment R.state reading in
        outcome_each M t R.words (plan_of K M t R.words token c) (first_fault (refusals_of K M t R.words token c)) (start_each R reading each) (plan_brings K M t R.words (shown_by M token c) c new)
    after_each R (begins reading conn token u) each new =
        let M = start_of R reading in
        let t = moment R.state reading in
        either_each (is_some (flight_of R.state conn)) R (with_state R (begin_step R reading conn token u).state) each
        (begun_each M t conn token u (first_fault (begin_refusals M t token u)) (start_each R reading each))
    after_each R (ends reading conn body) each new = with_end_each R reading body (flight_of R.state conn) each new
    after_each R (loses reading conn) each new =
        either_each (is_some (flight_of R.state conn)) (with_state R (without_flight (start_of R reading) (moment R.state reading) conn)) R (start_each R reading each) each
    after_each R (passes reading) each new = each_after P (moment R.state reading) change.Pass R.state each (All-nil P)
    after_each R (restarts reading) each new = each

    step_each : (R : Progress C) (s : Step C) → Each R.state → All P (brought_by K R s) → Each (step K R s).state
    step_each R s each new = subst Each (sym (answer_state (answer_to K R s) (state_after K R s))) (after_each R s each new)

pub old_or_brought : {C : Type 0} (K : Pieces C) (R : Progress C) (s : Step C) (c : C) → Contains (contents_of (step K R s).state) c → Contains (contents_of R.state) c ⊎ Contains (brought_by K R s) c
old_or_brought {C} K R s c at =
    let P : C → Type 0 = λ d. Contains (contents_of R.state) d ⊎ Contains (brought_by K R s) d in
    All-contains P (contents_of (step K R s).state) c
    (step_each P K R s
    (All-weaker (Contains (contents_of R.state)) P (λ d old. inl old) (contents_of R.state) (All-contains_itself (contents_of R.state)))
    (All-weaker (Contains (brought_by K R s)) P (λ d new. inr new) (brought_by K R s) (All-contains_itself (brought_by K R s))))
    at

-- ---- a call that makes no copy

holds_none : {C : Type 0} (xs : List C) → All (λ c. ⊥) xs → xs ≡ []
holds_none [] none = refl
holds_none {C} (x ∷ xs) none = absurd (All-head (λ (c : C). ⊥) x xs none)

-- what it writes brings nothing
pub brings_none : {C : Type 0} (K : Pieces C) (M : State C) (t : ℕ) (words : List ℕ) (key : Option Key) (c : Call) (ch : ChangeOf C) → copy_made K M c ≡ None → (plan K M t words key c).change ≡ Some ch → brought ch ≡ []
brings_none {C} K M t words key c ch none is =
    let P : C → Type 0 = λ d. ⊥ in
    let brings = plan_brings P K M t words key c (subst (λ o. All P (items (option_map (λ b. b.content) o))) (sym none) (All-nil P)) in
    holds_none (brought ch) (subst (λ o. All P (brought_in P o)) is brings)
