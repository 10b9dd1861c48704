-- The fault of each rule has the detail that the table of faults says.
use Rattle.std.proofs.Common.{◌≡◌, ℕ, Bool, true, false, List, [], ◌∷◌, ◌++◌, Option, Some, None, if◌then◌else◌, option_and_then, unwrap_or, refl, sym, subst}
use Rattle.std.specs.List.{AllByRecursion}
use Rattle.rule_table.specs.declared.fault.FaultKind.{FaultKind}
use Rattle.rule_table.specs.declared.fault.FaultKind.TheVariants.{P2, NoBucket, NoFile, NoKey}
use Rattle.b2_types.specs.FaultTable.{telling, NoMore}
use Rattle.b2_types.specs.Fault.{HasItsDetail}
use Rattle.b2_types.specs.declared.fault.Fault.{Fault}
use Rattle.b2_types.specs.declared.bucket.Bucket.{Bucket}
use Rattle.b2_types.specs.declared.key.Key.{Key}
use Rattle.b2_types.specs.declared.key.Grant.{Grant}
use Rattle.b2_types.specs.declared.key.Flight.{Flight}
use Rattle.b2_types.specs.declared.kinds.ApiVersion.{ApiVersion}
use Rattle.b2_types.specs.declared.kinds.ApiVersion.TheVariants as version
use Rattle.b2_types.specs.declared.version.VersionOf.{VersionOf}
use Rattle.b2_types.specs.declared.call.Call.{Call}
use Rattle.b2_types.specs.declared.call.Call.TheVariants as call
use Rattle.b2_types.specs.declared.call.CopyFile.{CopyFile}
use Rattle.b2_types.specs.declared.call.CopyPart.{CopyPart}
use Rattle.b2_types.specs.declared.upload.UploadCall.{UploadCall}
use Rattle.b2_types.specs.declared.upload.UploadCall.TheVariants as upload
use Rattle.b2_types.specs.declared.answer.AnswerOf.TheVariants as answer
use Rattle.b2_model.specs.Body.{Body}
use Rattle.b2_model.specs.Checks.{Check, IsFirstFailing}
use Rattle.b2_model.specs.State.{State, Pieces, bucket_at}
use Rattle.b2_model.specs.Rows.{version_at}
use Rattle.b2_model.specs.Current.{current as newest}
use Rattle.b2_model.specs.Plan.{Plan, or_absent}
use Rattle.b2_model.specs.Policy.{Caller, caller_of, key_by, bucket_named, Judged, policy_rules, name_rule, judged_call, judged_upload}
use Rattle.b2_model.specs.AskKeys.{authorize_plan, drop_key, key_of_id}
use Rattle.b2_model.specs.AskDownloads.{content, or_refused}
use Rattle.b2_model.specs.AskCopies.{file_copy_on, part_copy_on}
use Rattle.b2_model.specs.Ask.{plan, plan_of, shown_by, refusals_of, is_open, first_rules, ask}
use Rattle.b2_model.specs.UploadSteps.{begin, begin_refusals, begin_rules, end, end_plan, file_end, part_end, fits, target_of, upload_rules, upload_exists, large_of, without_flight}
use Rattle.machine_laws.specs.Details.{BringsItsDetail, UploadBringsItsDetail}
use Rattle.machine_laws.specs.Rules.{end_refusals}
use Rattle.machine_laws.proofs.Refused.{call_refused, begin_refused, end_refused}

-- ---- lists of rules

abbrev AllTell : List Check → Type 0
AllTell checks = AllByRecursion (λ c. HasItsDetail c.fault) checks

both_tell : (xs ys : List Check) → AllTell xs → AllTell ys → AllTell (xs ++ ys)
both_tell [] ys first second = second
both_tell (x ∷ xs) ys first second = (first.0, both_tell xs ys first.1 second)

failing_tells : (before : List Check) (at : Check) (after : List Check) → AllTell (before ++ at ∷ after) → HasItsDetail at.fault
failing_tells [] at after each = each.0
failing_tells (c ∷ before) at after each = failing_tells before at after each.1

first_tells : (checks : List Check) (fault : Fault) → AllTell checks → IsFirstFailing checks fault → HasItsDetail fault
first_tells checks fault each first = subst HasItsDetail first.told (failing_tells first.before first.at first.after (subst AllTell first.is each))

either_tells : (b : Bool) (xs ys : List Check) → AllTell xs → AllTell ys → AllTell (if b then xs else ys)
either_tells true xs ys first second = first
either_tells false xs ys first second = second

module _ {C : Type 0} where
  policy_tells : (M : State C) (t : ℕ) (j : Judged) (fits : Grant → Bool) (who : Caller) (exists : List Check) → AllTell exists → AllTell (policy_rules M t j fits who exists)
  policy_tells M t j fits who exists each =
      (refl, (refl, (refl, (refl, (refl, (refl, (refl, (refl, (refl, both_tell exists (name_rule M j who) each (refl, tt))))))))))

  -- ---- plans

  abbrev PlanTells : Plan C → Type 0
  PlanTells p = AllTell p.exists × AllTell p.own

  there : {X : Type 0} (kind : FaultKind) (p : X → Plan C) (o : Option X) → telling kind ≡ NoMore → ((x : X) → PlanTells (p x)) → PlanTells (or_absent kind p o)
  there kind p None no_more each = ((sym no_more, tt), tt)
  there kind p (Some x) no_more each = each x

  current : {X : Type 0} (kind : FaultKind) (p : X → Plan C) (o : Option X) → telling kind ≡ NoMore → ((x : X) → PlanTells (p x)) → PlanTells (or_refused kind p o)
  current kind p None no_more each = (tt, (sym no_more, tt))
  current kind p (Some x) no_more each = each x

  authorize_tells : (v : ApiVersion) (M : State C) (t : ℕ) (words : List ℕ) (k : Key) → PlanTells (authorize_plan v M t words k)
  authorize_tells version.V3 M t words k = (tt, (refl, (refl, tt)))
  authorize_tells version.V4 M t words k = (tt, (refl, (refl, tt)))

  file_copy_tells : (P : Pieces C) (M : State C) (key : Option Key) (t : ℕ) (c : CopyFile) (b : Option Bucket) (v : Option (VersionOf C)) → PlanTells (file_copy_on P M key t c b v)
  file_copy_tells P M key t c None v = ((refl, tt), tt)
  file_copy_tells P M key t c (Some b) None = ((refl, tt), tt)
  file_copy_tells P M key t c (Some b) (Some v) = (tt, (refl, (refl, (refl, (refl, (refl, (refl, tt)))))))

  part_copy_tells : (P : Pieces C) (t : ℕ) (c : CopyPart) (v large : Option (VersionOf C)) → PlanTells (part_copy_on P t c v large)
  part_copy_tells P t c None large = ((refl, tt), tt)
  part_copy_tells P t c (Some v) None = ((refl, tt), tt)
  part_copy_tells P t c (Some v) (Some large) = (tt, (refl, (refl, (refl, (refl, tt)))))

  plan_tells : (P : Pieces C) (M : State C) (t : ℕ) (words : List ℕ) (key : Option Key) (c : Call) → BringsItsDetail c → PlanTells (plan P M t words key c)
  plan_tells P M t words key (call.AuthorizeAccount c) brings = there P2 (authorize_plan c.version M t words) (option_and_then (key_by M) c.credentials) refl (authorize_tells c.version M t words)
  plan_tells P M t words key (call.CreateBucket c) brings = (tt, (refl, (refl, (refl, tt))))
  plan_tells P M t words key (call.UpdateBucket c) brings = there NoBucket _ (bucket_at M c.bucket) refl (λ b. (tt, (refl, (refl, (refl, (refl, tt))))))
  plan_tells P M t words key (call.DeleteBucket c) brings = there NoBucket _ (bucket_at M c.bucket) refl (λ b. (tt, (refl, tt)))
  plan_tells P M t words key (call.ListBuckets c) brings = (tt, tt)
  plan_tells P M t words key (call.CreateKey c) brings = ((refl, tt), (refl, (refl, (refl, tt))))
  plan_tells P M t words key (call.DeleteKey c) brings = there NoKey (drop_key c.version M) (key_of_id M c.key) refl (λ k. (tt, (refl, tt)))
  plan_tells P M t words key (call.ListKeys c) brings = (tt, tt)
  plan_tells P M t words key (call.GetUploadUrl c) brings = there NoBucket _ (bucket_at M c.bucket) refl (λ b. (tt, (refl, tt)))
  plan_tells P M t words key (call.StartLargeFile c) brings = there NoBucket _ (bucket_at M c.bucket) refl (λ b. (tt, (refl, (refl, (refl, tt)))))
  plan_tells P M t words key (call.GetUploadPartUrl c) brings = there NoFile _ (version_at M c.bucket c.file) refl (λ v. (tt, (refl, (refl, tt))))
  plan_tells P M t words key (call.ListParts c) brings = there NoFile _ (version_at M c.bucket c.file) refl (λ v. (tt, (refl, tt)))
  plan_tells P M t words key (call.FinishLargeFile c) brings = there NoFile _ (version_at M c.bucket c.file) refl (λ v. (tt, (refl, (refl, (refl, (refl, (refl, (refl, tt))))))))
  plan_tells P M t words key (call.CancelLargeFile c) brings = there NoFile _ (version_at M c.bucket c.file) refl (λ v. (tt, (refl, tt)))
  plan_tells P M t words key (call.ListUnfinishedLargeFiles c) brings = there NoBucket _ (bucket_at M c.bucket) refl (λ b. (tt, tt))
  plan_tells P M t words key (call.ListFileNames c) brings = there NoBucket _ (bucket_at M c.bucket) refl (λ b. (tt, tt))
  plan_tells P M t words key (call.ListFileVersions c) brings = there NoBucket _ (bucket_at M c.bucket) refl (λ b. (tt, tt))
  plan_tells P M t words key (call.GetFileInfo c) brings = there NoFile _ (version_at M c.bucket c.file) refl (λ v. (tt, tt))
  plan_tells P M t words key (call.HideFile c) brings = there NoBucket _ (bucket_at M c.bucket) refl (λ b. (tt, (refl, (refl, (refl, tt)))))
  plan_tells P M t words key (call.DeleteFileVersion c) brings = there NoFile _ (version_at M c.bucket c.file) refl (λ v. (tt, (refl, (refl, (refl, (refl, (refl, tt)))))))
  plan_tells P M t words key (call.GetDownloadAuthorization c) brings = there NoBucket _ (bucket_at M c.bucket) refl (λ b. (tt, (refl, tt)))
  plan_tells P M t words key (call.DownloadFileById c) brings = there NoFile _ (version_at M c.bucket c.file) refl (λ v. (tt, (refl, (refl, tt))))
  plan_tells P M t words key (call.DownloadFileByName c) brings =
      there NoFile _ (bucket_named M c.bucket) refl (λ b. current NoFile (content P.size M key c.range) (newest M b.num c.name) refl (λ v. (tt, (refl, (refl, tt)))))
  plan_tells P M t words key (call.UpdateFileRetention c) brings = there NoFile _ (version_at M c.bucket c.file) refl (λ v. (tt, (refl, (refl, (refl, (refl, (refl, (refl, tt))))))))
  plan_tells P M t words key (call.UpdateFileLegalHold c) brings = there NoFile _ (version_at M c.bucket c.file) refl (λ v. (tt, (refl, (refl, tt))))
  plan_tells P M t words key (call.CopyFile c) brings = file_copy_tells P M key t c (bucket_at M (unwrap_or c.bucket c.source.bucket)) (version_at M c.source.bucket c.source.num)
  plan_tells P M t words key (call.CopyPart c) brings = part_copy_tells P t c (version_at M c.source.bucket c.source.num) (version_at M c.bucket c.file)
  plan_tells P M t words key (call.Bad c) brings = (tt, (brings, tt))

  -- ---- calls

  rules_tell : (M : State C) (t : ℕ) (who : Caller) (c : Call) (exists : List Check) → AllTell exists → AllTell (first_rules M t who c exists)
  rules_tell M t who (call.AuthorizeAccount c) exists each = (refl, (refl, (refl, tt)))
  rules_tell M t who (call.Bad c) exists each = (refl, (refl, (refl, (refl, (refl, (refl, tt))))))
  rules_tell M t who other exists each = policy_tells M t (judged_call other) (λ g. true) who exists each

  pub refused_call_tells : (P : Pieces C) (M : State C) (t : ℕ) (words : List ℕ) (token : Option (List ℕ)) (c : Call) (fault : Fault)
      → BringsItsDetail c → (ask P M t words token c).answer ≡ answer.Refused fault → HasItsDetail fault
  refused_call_tells P M t words token c fault brings told =
      let p = plan_of P M t words token c in
      let tells = plan_tells P M t words (shown_by M token c) c brings in
      let first = first_rules M t (caller_of M token) c p.exists in
      let each : AllTell (refusals_of P M t words token c) =
      both_tell (if is_open M c then p.exists else first) p.own
      (either_tells (is_open M c) p.exists first tells.0 (rules_tell M t (caller_of M token) c p.exists tells.0)) tells.1 in
      first_tells (refusals_of P M t words token c) fault each ((call_refused P M t words token c fault).0 told)

  -- ---- uploads

  uploaded_tells : (M : State C) (t : ℕ) (who : Caller) (u : UploadCall) (exists : List Check) → AllTell exists → AllTell (upload_rules M t who u exists)
  uploaded_tells M t who (upload.File u) exists each = policy_tells M t (judged_upload (upload.File u)) (fits (target_of (upload.File u))) who exists each
  uploaded_tells M t who (upload.Part u) exists each = policy_tells M t (judged_upload (upload.Part u)) (fits (target_of (upload.Part u))) who exists each
  uploaded_tells M t who (upload.Bad c) exists each = (refl, (refl, (refl, (refl, (refl, (refl, tt))))))

  large_tells : (o : Option (VersionOf C)) → AllTell (large_of o)
  large_tells None = tt
  large_tells (Some v) = (refl, tt)

  begins_tell : (M : State C) (t : ℕ) (token : Option (List ℕ)) (u : UploadCall) → UploadBringsItsDetail u → AllTell (upload_exists M u) × AllTell (begin_rules M t token u)
  begins_tell M t token (upload.File u) brings = ((refl, tt), (refl, (refl, (refl, (refl, tt)))))
  begins_tell M t token (upload.Part u) brings = ((refl, tt), (refl, large_tells (version_at M u.bucket u.file)))
  begins_tell M t token (upload.Bad c) brings = (tt, (brings, tt))

  pub refused_begin_tells : (M : State C) (t conn : ℕ) (token : Option (List ℕ)) (u : UploadCall) (fault : Fault)
      → UploadBringsItsDetail u → (begin M t conn token u).fault ≡ Some fault → HasItsDetail fault
  refused_begin_tells M t conn token u fault brings told =
      let tells = begins_tell M t token u brings in
      let each : AllTell (begin_refusals M t token u) =
      both_tell (upload_rules M t (caller_of M token) u (upload_exists M u)) (begin_rules M t token u) (uploaded_tells M t (caller_of M token) u (upload_exists M u) tells.0) tells.1 in
      first_tells (begin_refusals M t token u) fault each ((begin_refused M t conn token u fault).0 told)

  end_tells : (size : C → ℕ) (M : State C) (t : ℕ) (key : Option Key) (body : Body C) (u : UploadCall) → UploadBringsItsDetail u → PlanTells (end_plan size M t key body u)
  end_tells size M t key body (upload.File u) brings = there NoBucket (file_end size M t key body u) (bucket_at M u.bucket) refl (λ b. (tt, (refl, (refl, (refl, (refl, tt))))))
  end_tells size M t key body (upload.Part u) brings = there NoFile (part_end size t body u) (version_at M u.bucket u.file) refl (λ v. (tt, (refl, (refl, tt))))
  end_tells size M t key body (upload.Bad c) brings = (tt, (brings, tt))

  pub refused_end_tells : (size : C → ℕ) (M : State C) (t : ℕ) (f : Flight) (body : Body C) (words : List ℕ) (fault : Fault)
      → UploadBringsItsDetail f.upload → (end size M t f body words).answer ≡ answer.Refused fault → HasItsDetail fault
  refused_end_tells size M t f body words fault brings told =
      let N = without_flight M t f.conn in
      let who = caller_of N (Some f.token) in
      let p = end_plan size N t who.key body f.upload in
      let tells = end_tells size N t who.key body f.upload brings in
      let each : AllTell (end_refusals size M t f body) = both_tell (upload_rules N t who f.upload p.exists) p.own (uploaded_tells N t who f.upload p.exists tells.0) tells.1 in
      first_tells (end_refusals size M t f body) fault each ((end_refused size M t f body words fault).0 told)
