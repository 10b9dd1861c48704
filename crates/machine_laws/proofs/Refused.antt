-- A fault is the answer exactly where a rule fails first.
use Rattle.std.proofs.Common.{◌≡◌, ◌↔◌, ℕ, Bool, true, false, not, ◌&&◌, ◌||◌, nat_le, nat_lt, drop, if◌then◌else◌, option_and_then, unwrap_or, List, [], ◌∷◌, ◌++◌, Option, Some, None, refl, sym, ap, subst, ◌∙◌, arith}
use Rattle.std.specs.Option.{is_none}
use Rattle.std.specs.List.{list_any}
use Rattle.std.proofs.lemmas.Bool.{false≢true}
use Rattle.std.proofs.lemmas.Bool.Decides.{nat_tests}
use Rattle.rule_table.specs.declared.fault.FaultKind.{FaultKind}
use Rattle.rule_table.specs.declared.fault.FaultKind.TheVariants.{P1, P2, NoBucket, NoFile, NoKey}
use Rattle.b2_types.specs.declared.fault.Fault.{Fault}
use Rattle.b2_types.specs.declared.bucket.Bucket.{Bucket}
use Rattle.b2_types.specs.declared.key.Key.{Key}
use Rattle.b2_types.specs.declared.key.Grant.{Grant}
use Rattle.b2_types.specs.declared.key.Flight.{Flight}
use Rattle.b2_types.specs.declared.kinds.ApiVersion.{ApiVersion}
use Rattle.b2_types.specs.declared.kinds.TokenKind.{TokenKind}
use Rattle.b2_types.specs.declared.version.VersionOf.{VersionOf}
use Rattle.b2_types.specs.declared.call.Call.{Call}
use Rattle.b2_types.specs.declared.call.Call.TheVariants as call
use Rattle.b2_types.specs.declared.call.CopyFile.{CopyFile}
use Rattle.b2_types.specs.declared.call.CopyPart.{CopyPart}
use Rattle.b2_types.specs.declared.upload.UploadCall.{UploadCall}
use Rattle.b2_types.specs.declared.upload.UploadCall.TheVariants as upload
use Rattle.b2_types.specs.declared.answer.AnswerOf.{AnswerOf}
use Rattle.b2_types.specs.declared.answer.AnswerOf.TheVariants as answer
use Rattle.b2_model.specs.Body.{Body}
use Rattle.b2_model.specs.Checks.{Check, check, first_fault, some_and, IsFirstFailing}
use Rattle.b2_model.specs.State.{State, Pieces, bucket_at, key_at}
use Rattle.b2_model.specs.Rows.{version_at}
use Rattle.b2_model.specs.Current.{current as newest}
use Rattle.b2_model.specs.LiveGrant.{is_before_end, grant_at, is_live}
use Rattle.b2_model.specs.Plan.{Plan, or_absent}
use Rattle.b2_model.specs.Policy.{Caller, caller_of, key_by, bucket_named, token_rules, authorize_rules, call_rules, Judged, judged_call, judged_upload, name_rule, policy_rules}
use Rattle.b2_model.specs.AskKeys.{authorize_plan, drop_key, key_of_id}
use Rattle.b2_model.specs.AskDownloads.{content, or_refused}
use Rattle.b2_model.specs.AskCopies.{file_copy_on, part_copy_on}
use Rattle.b2_model.specs.Ask.{plan, plan_of, shown_by, refusals, refusals_of, is_open, first_rules, ask, outcome_or_refusal}
use Rattle.b2_model.specs.UploadSteps.{begin, begin_as, begin_refusals, end, end_plan, file_end, part_end, fits, target_of, upload_rules, without_flight}
use Rattle.b2_model.proofs.Steps.{first_failing}
use Rattle.machine_laws.specs.Rules.{end_refusals}
use Rattle.machine_laws.proofs.Passed.{passed, none_in, never_none, told_first}

-- ---- nothing is refused where no rule fails

policy_none : (b : Bool) (first second exists third own : List Check) → first_fault ((if b then exists else first ++ second ++ exists ++ third) ++ own) ≡ None
    → (first_fault exists ≡ None) × (first_fault own ≡ None)
policy_none true first second exists third own none = none_in exists own none
policy_none false first second exists third own none =
    let both = none_in (first ++ second ++ exists ++ third) own none in
    ((none_in (first ++ second) exists (none_in (first ++ second ++ exists) third both.0).0).1, both.1)

-- ---- a token and its key

ended_or_live : (last t : ℕ) (b : Bool) → (nat_le last t || (not b || false)) ≡ not (nat_lt t last && b)
ended_or_live last t true = grind (arith, nat_tests)
ended_or_live last t false = grind (arith, nat_tests)

no_key : (b : Bool) → not (b && false) ≡ true
no_key true = refl
no_key false = refl

live_with : (t : ℕ) (g : Grant) (o : Option Key)
    → (is_none o || (nat_le g.end t || (some_and (λ k. not (is_before_end t k.end)) o || false))) ≡ not (nat_lt t g.end && some_and (λ k. is_before_end t k.end) o)
live_with t g None = sym (no_key (nat_lt t g.end))
live_with t g (Some k) = ended_or_live g.end t (is_before_end t k.end)

module _ {C : Type 0} where
  -- an answer that refuses nothing
  abbrev Accepts : AnswerOf C → Type 0
  Accepts (answer.Json shown) = Unit {0}
  Accepts (answer.Content c) = Unit {0}
  Accepts (answer.Refused fault) = ⊥

  -- nothing is refused where no rule of the plan fails
  abbrev Fine : Plan C → Type 0
  Fine p = first_fault p.exists ≡ None → first_fault p.own ≡ None → Accepts p.answer

  there : {X : Type 0} (kind : FaultKind) (p : X → Plan C) (o : Option X) → ((x : X) → Fine (p x)) → Fine (or_absent kind p o)
  there kind p None each = λ exists own. absurd (never_none (check kind true) [] refl exists)
  there kind p (Some x) each = each x

  current : {X : Type 0} (kind : FaultKind) (p : X → Plan C) (o : Option X) → ((x : X) → Fine (p x)) → Fine (or_refused kind p o)
  current kind p None each = λ exists own. absurd (never_none (check kind true) [] refl own)
  current kind p (Some x) each = each x

  file_copy_fine : (P : Pieces C) (M : State C) (key : Option Key) (t : ℕ) (c : CopyFile) (b : Option Bucket) (v : Option (VersionOf C)) → Fine (file_copy_on P M key t c b v)
  file_copy_fine P M key t c None v exists own = absurd (never_none (check NoBucket true) [] refl exists)
  file_copy_fine P M key t c (Some b) None exists own = absurd (never_none (check NoFile true) [] refl exists)
  file_copy_fine P M key t c (Some b) (Some v) exists own = tt

  part_copy_fine : (P : Pieces C) (t : ℕ) (c : CopyPart) (v large : Option (VersionOf C)) → Fine (part_copy_on P t c v large)
  part_copy_fine P t c None large exists own = absurd (never_none (check NoFile true) [] refl exists)
  part_copy_fine P t c (Some v) None exists own = absurd (never_none (check NoFile true) [] refl exists)
  part_copy_fine P t c (Some v) (Some large) exists own = tt

  plan_fine : (P : Pieces C) (M : State C) (t : ℕ) (words : List ℕ) (key : Option Key) (c : Call) → Fine (plan P M t words key c)
  plan_fine P M t words key (call.AuthorizeAccount c) = there P2 (authorize_plan c.version M t words) (option_and_then (key_by M) c.credentials) (λ k e o. tt)
  plan_fine P M t words key (call.CreateBucket c) = λ e o. tt
  plan_fine P M t words key (call.UpdateBucket c) = there NoBucket _ (bucket_at M c.bucket) (λ b e o. tt)
  plan_fine P M t words key (call.DeleteBucket c) = there NoBucket _ (bucket_at M c.bucket) (λ b e o. tt)
  plan_fine P M t words key (call.ListBuckets c) = λ e o. tt
  plan_fine P M t words key (call.CreateKey c) = λ e o. tt
  plan_fine P M t words key (call.DeleteKey c) = there NoKey (drop_key c.version M) (key_of_id M c.key) (λ k e o. tt)
  plan_fine P M t words key (call.ListKeys c) = λ e o. tt
  plan_fine P M t words key (call.GetUploadUrl c) = there NoBucket _ (bucket_at M c.bucket) (λ b e o. tt)
  plan_fine P M t words key (call.StartLargeFile c) = there NoBucket _ (bucket_at M c.bucket) (λ b e o. tt)
  plan_fine P M t words key (call.GetUploadPartUrl c) = there NoFile _ (version_at M c.bucket c.file) (λ v e o. tt)
  plan_fine P M t words key (call.ListParts c) = there NoFile _ (version_at M c.bucket c.file) (λ v e o. tt)
  plan_fine P M t words key (call.FinishLargeFile c) = there NoFile _ (version_at M c.bucket c.file) (λ v e o. tt)
  plan_fine P M t words key (call.CancelLargeFile c) = there NoFile _ (version_at M c.bucket c.file) (λ v e o. tt)
  plan_fine P M t words key (call.ListUnfinishedLargeFiles c) = there NoBucket _ (bucket_at M c.bucket) (λ b e o. tt)
  plan_fine P M t words key (call.ListFileNames c) = there NoBucket _ (bucket_at M c.bucket) (λ b e o. tt)
  plan_fine P M t words key (call.ListFileVersions c) = there NoBucket _ (bucket_at M c.bucket) (λ b e o. tt)
  plan_fine P M t words key (call.GetFileInfo c) = there NoFile _ (version_at M c.bucket c.file) (λ v e o. tt)
  plan_fine P M t words key (call.HideFile c) = there NoBucket _ (bucket_at M c.bucket) (λ b e o. tt)
  plan_fine P M t words key (call.DeleteFileVersion c) = there NoFile _ (version_at M c.bucket c.file) (λ v e o. tt)
  plan_fine P M t words key (call.GetDownloadAuthorization c) = there NoBucket _ (bucket_at M c.bucket) (λ b e o. tt)
  plan_fine P M t words key (call.DownloadFileById c) = there NoFile _ (version_at M c.bucket c.file) (λ v e o. tt)
  plan_fine P M t words key (call.DownloadFileByName c) =
      there NoFile _ (bucket_named M c.bucket) (λ b. current NoFile (content P.size M key c.range) (newest M b.num c.name) (λ v e o. tt))
  plan_fine P M t words key (call.UpdateFileRetention c) = there NoFile _ (version_at M c.bucket c.file) (λ v e o. tt)
  plan_fine P M t words key (call.UpdateFileLegalHold c) = there NoFile _ (version_at M c.bucket c.file) (λ v e o. tt)
  plan_fine P M t words key (call.CopyFile c) = file_copy_fine P M key t c (bucket_at M (unwrap_or c.bucket c.source.bucket)) (version_at M c.source.bucket c.source.num)
  plan_fine P M t words key (call.CopyPart c) = part_copy_fine P t c (version_at M c.source.bucket c.source.num) (version_at M c.bucket c.file)
  plan_fine P M t words key (call.Bad c) = λ e o. absurd (never_none (record { fails = true; fault = c.fault }) [] refl o)

  -- an authorize call judges its key itself
  known_key : (M : State C) (t : ℕ) (words : List ℕ) (v : ApiVersion) (o : Option Key) → is_none o ≡ false → Accepts (or_absent P2 (authorize_plan v M t words) o).answer
  known_key M t words v None known = absurd (false≢true (sym known))
  known_key M t words v (Some k) known = tt

  cleared : (P : Pieces C) (M : State C) (t : ℕ) (words : List ℕ) (key : Option Key) (who : Caller) (c : Call)
      → first_fault (refusals M t who c (plan P M t words key c)) ≡ None → Accepts (plan P M t words key c).answer
  cleared P M t words key who (call.AuthorizeAccount c) none =
      let found = option_and_then (key_by M) c.credentials in
      let rules = (none_in (authorize_rules M t c.credentials) (plan P M t words key (call.AuthorizeAccount c)).own none).0 in
      let rest = (passed (check P1 (is_none c.credentials)) (drop 1 (authorize_rules M t c.credentials)) (is_none c.credentials) refl rules).1 in
      known_key M t words c.version found (passed (check P2 (is_none found)) (drop 2 (authorize_rules M t c.credentials)) (is_none found) refl rest).0
  cleared P M t words key who (call.Bad c) none =
      absurd (never_none (record { fails = true; fault = c.fault }) [] refl (none_in (if is_open M (call.Bad c) then [] else first_rules M t who (call.Bad c) []) (record { fails = true; fault = c.fault } ∷ []) none).1)
  cleared P M t words key who other none =
      let p = plan P M t words key other in
      let both = policy_none (is_open M other) (token_rules t (judged_call other).row.tokens (λ g. true) who) (call_rules M (judged_call other) who) p.exists (name_rule M (judged_call other) who) p.own none in
      plan_fine P M t words key other both.0 both.1

  -- ---- what is answered

  abbrev fault_of : Fault → AnswerOf C → Fault
  fault_of other (answer.Json shown) = other
  fault_of other (answer.Content c) = other
  fault_of other (answer.Refused fault) = fault

  refused_by : (M : State C) (t : ℕ) (words : List ℕ) (p : Plan C) (o : Option Fault) (fault : Fault) → (o ≡ None → Accepts p.answer)
      → (outcome_or_refusal M t words p o).answer ≡ answer.Refused fault → o ≡ Some fault
  refused_by M t words p None fault fine told = absurd (subst Accepts told (fine refl))
  refused_by M t words p (Some f) fault fine told = ap Some (ap (fault_of f) told)

  outcome_refused : (M : State C) (t : ℕ) (words : List ℕ) (p : Plan C) (checks : List Check) (fault : Fault) → (first_fault checks ≡ None → Accepts p.answer)
      → (outcome_or_refusal M t words p (first_fault checks)).answer ≡ answer.Refused fault ↔ IsFirstFailing checks fault
  outcome_refused M t words p checks fault fine = (
    λ told. first_failing checks fault (refused_by M t words p (first_fault checks) fault fine told),
    λ first. ap (λ o. (outcome_or_refusal M t words p o).answer) (told_first checks fault first),
  )

  pub call_refused : (P : Pieces C) (M : State C) (t : ℕ) (words : List ℕ) (token : Option (List ℕ)) (c : Call) (fault : Fault)
      → (ask P M t words token c).answer ≡ answer.Refused fault ↔ IsFirstFailing (refusals_of P M t words token c) fault
  call_refused P M t words token c fault =
      outcome_refused M t words (plan_of P M t words token c) (refusals_of P M t words token c) fault (cleared P M t words (shown_by M token c) (caller_of M token) c)

  -- ---- uploads

  begun_fault : (M : State C) (t conn : ℕ) (token : Option (List ℕ)) (u : UploadCall) (o : Option Fault) → (begin_as M t conn token u o).fault ≡ o
  begun_fault M t conn token u None = refl
  begun_fault M t conn token u (Some fault) = refl

  pub begin_refused : (M : State C) (t conn : ℕ) (token : Option (List ℕ)) (u : UploadCall) (fault : Fault)
      → (begin M t conn token u).fault ≡ Some fault ↔ IsFirstFailing (begin_refusals M t token u) fault
  begin_refused M t conn token u fault =
      let checks = begin_refusals M t token u in (
        λ told. first_failing checks fault (sym (begun_fault M t conn token u (first_fault checks)) ∙ told),
        λ first. begun_fault M t conn token u (first_fault checks) ∙ told_first checks fault first,
      )

  end_fine : (size : C → ℕ) (M : State C) (t : ℕ) (key : Option Key) (body : Body C) (u : UploadCall) → Fine (end_plan size M t key body u)
  end_fine size M t key body (upload.File u) = there NoBucket (file_end size M t key body u) (bucket_at M u.bucket) (λ b e o. tt)
  end_fine size M t key body (upload.Part u) = there NoFile (part_end size t body u) (version_at M u.bucket u.file) (λ v e o. tt)
  end_fine size M t key body (upload.Bad c) = λ e o. absurd (never_none (record { fails = true; fault = c.fault }) [] refl o)

  abbrev rules_of_end : (size : C → ℕ) → State C → ℕ → Caller → Body C → UploadCall → List Check
  rules_of_end size M t who body u = let p = end_plan size M t who.key body u in upload_rules M t who u p.exists ++ p.own

  judged_end : (size : C → ℕ) (M : State C) (t : ℕ) (who : Caller) (body : Body C) (u : UploadCall) (j : Judged) (fits : Grant → Bool)
      → (let p = end_plan size M t who.key body u in first_fault (policy_rules M t j fits who p.exists ++ p.own) ≡ None → Accepts p.answer)
  judged_end size M t who body u j fits none =
      let p = end_plan size M t who.key body u in
      let both = policy_none false (token_rules t j.row.tokens fits who) (call_rules M j who) p.exists (name_rule M j who) p.own none in
      end_fine size M t who.key body u both.0 both.1

  end_cleared : (size : C → ℕ) (M : State C) (t : ℕ) (who : Caller) (body : Body C) (u : UploadCall)
      → first_fault (rules_of_end size M t who body u) ≡ None → Accepts (end_plan size M t who.key body u).answer
  end_cleared size M t who body (upload.File u) none = judged_end size M t who body (upload.File u) (judged_upload (upload.File u)) (fits (target_of (upload.File u))) none
  end_cleared size M t who body (upload.Part u) none = judged_end size M t who body (upload.Part u) (judged_upload (upload.Part u)) (fits (target_of (upload.Part u))) none
  end_cleared size M t who body (upload.Bad c) none =
      absurd (never_none (record { fails = true; fault = c.fault }) [] refl (none_in (upload_rules M t who (upload.Bad c) []) (record { fails = true; fault = c.fault } ∷ []) none).1)

  pub end_refused : (size : C → ℕ) (M : State C) (t : ℕ) (f : Flight) (body : Body C) (words : List ℕ) (fault : Fault)
      → (end size M t f body words).answer ≡ answer.Refused fault ↔ IsFirstFailing (end_refusals size M t f body) fault
  end_refused size M t f body words fault =
      let N = without_flight M t f.conn in
      let who = caller_of N (Some f.token) in
      outcome_refused N t words (end_plan size N t who.key body f.upload) (end_refusals size M t f body) fault (end_cleared size N t who body f.upload)

  -- ---- live tokens

  abbrev caller_by : State C → List ℕ → Option Grant → Caller
  caller_by M token o = record { token = Some token; grant = o; key = option_and_then (λ g. key_at M g.key) o }

  pub live_tokens : (M : State C) (t : ℕ) (kinds : List TokenKind) (fits : Grant → Bool) (token : List ℕ) (g : Grant) → grant_at M token ≡ Some g
      → list_any (λ c. c.fails) (drop 3 (token_rules t kinds fits (caller_of M (Some token)))) ≡ not (is_live M t g)
  live_tokens M t kinds fits token g is =
      ap (λ o. list_any (λ c. c.fails) (drop 3 (token_rules t kinds fits (caller_by M token o)))) is ∙ live_with t g (key_at M g.key)
