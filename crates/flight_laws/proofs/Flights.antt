-- The uploads that are under way in the machine after a step.
use Rattle.std.proofs.Common.{◌≡◌, ℕ, ◌==◌, nat_lt, ◌/◌, Bool, true, false, not, List, Option, Some, None, filter, if◌then◌else◌, unwrap_or, option_and_then, refl, ap, ◌∙◌}
use Rattle.std.specs.Prelude.{⊤}
use Rattle.std.specs.Option.{is_some}
use Rattle.rule_table.specs.declared.fault.FaultKind.{FaultKind}
use Rattle.rule_table.specs.declared.fault.FaultKind.TheVariants.{NoBucket, NoFile, NoKey}
use Rattle.b2_types.specs.declared.fault.Fault.{Fault}
use Rattle.b2_types.specs.declared.bucket.Bucket.{Bucket}
use Rattle.b2_types.specs.declared.key.Flight.{Flight}
use Rattle.b2_types.specs.declared.key.Grant.{Grant}
use Rattle.b2_types.specs.declared.key.Key.{Key}
use Rattle.b2_types.specs.declared.call.Call.{Call}
use Rattle.b2_types.specs.declared.call.Call.TheVariants as call
use Rattle.b2_types.specs.declared.call.CopyFile.{CopyFile}
use Rattle.b2_types.specs.declared.call.CopyPart.{CopyPart}
use Rattle.b2_types.specs.declared.record.ChangeOf.{ChangeOf}
use Rattle.b2_types.specs.declared.record.ChangeOf.TheVariants as change
use Rattle.b2_types.specs.declared.upload.UploadCall.{UploadCall}
use Rattle.b2_types.specs.declared.upload.UploadCall.TheVariants as upload
use Rattle.b2_types.specs.declared.version.VersionOf.{VersionOf}
use Rattle.b2_model.specs.Kinds.{day}
use Rattle.b2_model.specs.Body.{Body}
use Rattle.b2_model.specs.Checks.{first_fault}
use Rattle.b2_model.specs.State.{State, Pieces, bucket_at}
use Rattle.b2_model.specs.Rows.{version_at}
use Rattle.b2_model.specs.Current.{current as newest}
use Rattle.b2_model.specs.Policy.{caller_of, key_by, bucket_named}
use Rattle.b2_model.specs.Plan.{Plan, or_absent}
use Rattle.b2_model.specs.AskKeys.{authorize_plan, drop_key, key_of_id}
use Rattle.b2_model.specs.AskDownloads.{content, or_refused}
use Rattle.b2_model.specs.AskCopies.{file_copy_on, part_copy_on}
use Rattle.b2_model.specs.Ask.{ask, plan, plan_of, refusals_of, shown_by, at_moment, with_change, with_grant, outcome_or_refusal}
use Rattle.b2_model.specs.UploadSteps.{end, without_flight, end_plan, file_end, part_end}
use Rattle.b2_model.specs.Run.{asks, Progress, moment, with_daily_pass, with_pass, start_of, step}
use Rattle.machine_laws.proofs.PassKeeps.{passed_flights}
use Rattle.flight_laws.proofs.Finds.{upload_on}

-- an upload is under way on the connection
abbrev pub under_way : List Flight → ℕ → Bool
under_way flights d = is_some (upload_on flights d)

module _ {C : Type 0} where
  -- ---- changes

  -- the change leaves the uploads that are under way
  abbrev pub Spares : Option (ChangeOf C) → Type 0
  Spares None = ⊤
  Spares (Some (change.Boot n)) = ⊥
  Spares (Some (change.SnapState n)) = ⊥
  Spares (Some other) = ⊤

  spared : (M : State C) (t : ℕ) (o : Option (ChangeOf C)) → Spares o → (with_change M t o).flights ≡ M.flights
  spared M t None spares = refl
  spared M t (Some change.Pass) spares = passed_flights t M
  spared M t (Some (change.Boot n)) spares = absurd spares
  spared M t (Some (change.SnapState n)) spares = absurd spares
  spared M t (Some other) spares = refl

  granted : (g : Option Grant) (N : State C) → (with_grant g N).flights ≡ N.flights
  granted None N = refl
  granted (Some g) N = refl

  outcome_flights : (M : State C) (t : ℕ) (words : List ℕ) (p : Plan C) (o : Option Fault) → Spares p.change → (outcome_or_refusal M t words p o).state.flights ≡ M.flights
  outcome_flights M t words p (Some fault) spares = refl
  outcome_flights M t words p None spares = granted p.grant (with_change (at_moment M t) t p.change) ∙ spared (at_moment M t) t p.change spares

  -- ---- plans

  there : {X : Type 0} (kind : FaultKind) (p : X → Plan C) (o : Option X) → ((x : X) → Spares (p x).change) → Spares (or_absent kind p o).change
  there kind p None each = tt
  there kind p (Some x) each = each x

  current : (p : VersionOf C → Plan C) (o : Option (VersionOf C)) → ((v : VersionOf C) → Spares (p v).change) → Spares (or_refused NoFile p o).change
  current p None each = tt
  current p (Some v) each = each v

  file_copied : (P : Pieces C) (M : State C) (key : Option Key) (t : ℕ) (c : CopyFile) (b : Option Bucket) (v : Option (VersionOf C)) → Spares (file_copy_on P M key t c b v).change
  file_copied P M key t c None v = tt
  file_copied P M key t c (Some b) None = tt
  file_copied P M key t c (Some b) (Some v) = tt

  part_copied : (P : Pieces C) (t : ℕ) (c : CopyPart) (v large : Option (VersionOf C)) → Spares (part_copy_on P t c v large).change
  part_copied P t c None large = tt
  part_copied P t c (Some v) None = tt
  part_copied P t c (Some v) (Some large) = tt

  plan_spares : (P : Pieces C) (M : State C) (t : ℕ) (words : List ℕ) (key : Option Key) (c : Call) → Spares (plan P M t words key c).change
  plan_spares P M t words key (call.AuthorizeAccount c) = there _ (authorize_plan c.version M t words) (option_and_then (key_by M) c.credentials) (λ k. tt)
  plan_spares P M t words key (call.CreateBucket c) = tt
  plan_spares P M t words key (call.UpdateBucket c) = there NoBucket _ (bucket_at M c.bucket) (λ b. tt)
  plan_spares P M t words key (call.DeleteBucket c) = there NoBucket _ (bucket_at M c.bucket) (λ b. tt)
  plan_spares P M t words key (call.ListBuckets c) = tt
  plan_spares P M t words key (call.CreateKey c) = tt
  plan_spares P M t words key (call.DeleteKey c) = there NoKey (drop_key c.version M) (key_of_id M c.key) (λ k. tt)
  plan_spares P M t words key (call.ListKeys c) = tt
  plan_spares P M t words key (call.GetUploadUrl c) = there NoBucket _ (bucket_at M c.bucket) (λ b. tt)
  plan_spares P M t words key (call.StartLargeFile c) = there NoBucket _ (bucket_at M c.bucket) (λ b. tt)
  plan_spares P M t words key (call.GetUploadPartUrl c) = there NoFile _ (version_at M c.bucket c.file) (λ v. tt)
  plan_spares P M t words key (call.ListParts c) = there NoFile _ (version_at M c.bucket c.file) (λ v. tt)
  plan_spares P M t words key (call.FinishLargeFile c) = there NoFile _ (version_at M c.bucket c.file) (λ v. tt)
  plan_spares P M t words key (call.CancelLargeFile c) = there NoFile _ (version_at M c.bucket c.file) (λ v. tt)
  plan_spares P M t words key (call.ListUnfinishedLargeFiles c) = there NoBucket _ (bucket_at M c.bucket) (λ b. tt)
  plan_spares P M t words key (call.ListFileNames c) = there NoBucket _ (bucket_at M c.bucket) (λ b. tt)
  plan_spares P M t words key (call.ListFileVersions c) = there NoBucket _ (bucket_at M c.bucket) (λ b. tt)
  plan_spares P M t words key (call.GetFileInfo c) = there NoFile _ (version_at M c.bucket c.file) (λ v. tt)
  plan_spares P M t words key (call.HideFile c) = there NoBucket _ (bucket_at M c.bucket) (λ b. tt)
  plan_spares P M t words key (call.DeleteFileVersion c) = there NoFile _ (version_at M c.bucket c.file) (λ v. tt)
  plan_spares P M t words key (call.GetDownloadAuthorization c) = there NoBucket _ (bucket_at M c.bucket) (λ b. tt)
  plan_spares P M t words key (call.DownloadFileById c) = there NoFile (content P.size M key c.range) (version_at M c.bucket c.file) (λ v. tt)
  plan_spares P M t words key (call.DownloadFileByName c) = there NoFile _ (bucket_named M c.bucket) (λ b. current (content P.size M key c.range) (newest M b.num c.name) (λ v. tt))
  plan_spares P M t words key (call.UpdateFileRetention c) = there NoFile _ (version_at M c.bucket c.file) (λ v. tt)
  plan_spares P M t words key (call.UpdateFileLegalHold c) = there NoFile _ (version_at M c.bucket c.file) (λ v. tt)
  plan_spares P M t words key (call.CopyFile c) = file_copied P M key t c (bucket_at M (unwrap_or c.bucket c.source.bucket)) (version_at M c.source.bucket c.source.num)
  plan_spares P M t words key (call.CopyPart c) = part_copied P t c (version_at M c.source.bucket c.source.num) (version_at M c.bucket c.file)
  plan_spares P M t words key (call.Bad c) = tt

  end_spares : (size : C → ℕ) (M : State C) (t : ℕ) (key : Option Key) (body : Body C) (u : UploadCall) → Spares (end_plan size M t key body u).change
  end_spares size M t key body (upload.File u) = there NoBucket (file_end size M t key body u) (bucket_at M u.bucket) (λ b. tt)
  end_spares size M t key body (upload.Part u) = there NoFile (part_end size t body u) (version_at M u.bucket u.file) (λ v. tt)
  end_spares size M t key body (upload.Bad c) = tt

  -- ---- steps

  either : (b : Bool) (M N : State C) (fs : List Flight) → M.flights ≡ fs → N.flights ≡ fs → (if b then M else N).flights ≡ fs
  either true M N fs first second = first
  either false M N fs first second = second

  pub ask_flights : (K : Pieces C) (M : State C) (t : ℕ) (words : List ℕ) (token : Option (List ℕ)) (c : Call) → (ask K M t words token c).state.flights ≡ M.flights
  ask_flights K M t words token c = outcome_flights M t words (plan_of K M t words token c) (first_fault (refusals_of K M t words token c)) (plan_spares K M t words (shown_by M token c) c)

  pub day_flights : (M : State C) (t : ℕ) → (with_daily_pass M t).flights ≡ M.flights
  day_flights M t = either (nat_lt M.pass_day (t / day)) (with_pass M t) M M.flights (passed_flights t M) refl

  pub end_flights : (size : C → ℕ) (M : State C) (t c : ℕ) (f : Flight) (body : Body C) (words : List ℕ) → f.conn ≡ c → (end size M t f body words).state.flights ≡ filter (λ (g : Flight). not (g.conn == c)) M.flights
  end_flights size M t c f body words same =
      let N = without_flight M t f.conn in
      let who = caller_of N (Some f.token) in
      outcome_flights N t words (end_plan size N t who.key body f.upload) _ (end_spares size N t who.key body f.upload)
      ∙ ap (λ (n : ℕ). filter (λ (g : Flight). not (g.conn == n)) M.flights) same

  abbrev pub flights_of : Progress C → List Flight
  flights_of P = P.state.flights

  pub start_flights : (P : Progress C) (reading : ℕ) → (start_of P reading).flights ≡ flights_of P
  start_flights P reading = day_flights P.state (moment P.state reading)

  pub asked_flights : (K : Pieces C) (P : Progress C) (reading : ℕ) (token : Option (List ℕ)) (c : Call) → flights_of (step K P (asks reading token c)) ≡ flights_of P
  asked_flights K P reading token c = ask_flights K (start_of P reading) (moment P.state reading) P.words token c ∙ start_flights P reading
