-- What each record of a step tells: its moment, and the next number.
use Rattle.std.proofs.Common.{◌≡◌, ℕ, ◌+◌, Bool, true, false, List, [], ◌∷◌, ◌++◌, All, Option, Some, None, option_and_then, unwrap_or, if◌then◌else◌, refl, sym, subst}
use Rattle.std.specs.Prelude.{⊤}
use Rattle.std.specs.Option.{is_some}
use Rattle.std.proofs.lemmas.List.Elements.{All-nil, All-cons, All-append}
use Rattle.rule_table.specs.declared.fault.FaultKind.{FaultKind}
use Rattle.rule_table.specs.declared.fault.FaultKind.TheVariants.{NoBucket, NoFile, NoKey}
use Rattle.b2_types.specs.declared.bucket.Bucket.{Bucket}
use Rattle.b2_types.specs.declared.key.Key.{Key}
use Rattle.b2_types.specs.declared.key.Flight.{Flight}
use Rattle.b2_types.specs.declared.fault.Fault.{Fault}
use Rattle.b2_types.specs.declared.call.Call.{Call}
use Rattle.b2_types.specs.declared.call.Call.TheVariants as call
use Rattle.b2_types.specs.declared.call.CopyFile.{CopyFile}
use Rattle.b2_types.specs.declared.call.CopyPart.{CopyPart}
use Rattle.b2_types.specs.declared.upload.UploadCall.{UploadCall}
use Rattle.b2_types.specs.declared.upload.UploadCall.TheVariants as upload
use Rattle.b2_types.specs.declared.record.RecordOf.{RecordOf}
use Rattle.b2_types.specs.declared.record.ChangeOf.{ChangeOf}
use Rattle.b2_types.specs.declared.record.ChangeOf.TheVariants as change
use Rattle.b2_types.specs.declared.version.VersionOf.{VersionOf}
use Rattle.b2_model.specs.Body.{Body}
use Rattle.b2_model.specs.Checks.{first_fault}
use Rattle.b2_model.specs.State.{State, Pieces, bucket_at}
use Rattle.b2_model.specs.Rows.{version_at}
use Rattle.b2_model.specs.Current.{current as newest}
use Rattle.b2_model.specs.Plan.{Plan, or_absent}
use Rattle.b2_model.specs.Policy.{caller_of, key_by, bucket_named}
use Rattle.b2_model.specs.Stored.{stored_part, is_snap_state, record_at}
use Rattle.b2_model.specs.AskKeys.{authorize_plan, drop_key, key_of_id}
use Rattle.b2_model.specs.AskDownloads.{content, or_refused}
use Rattle.b2_model.specs.AskCopies.{file_copy_on, part_copy_on}
use Rattle.b2_model.specs.Ask.{plan, plan_of, shown_by, refusals_of}
use Rattle.b2_model.specs.UploadSteps.{end_plan, file_end, part_end, without_flight, flight_of}
use Rattle.b2_model.specs.Run.{Step, asks, begins, ends, loses, passes, restarts, Progress, moment, at_kept, with_pass, start_of}
use Rattle.machine_laws.specs.Rules.{end_refusals}
use Rattle.machine_laws.specs.Days.{is_due}
use Rattle.sound_states.specs.Sound.{IsSound, IsFitChange}
use Rattle.sound_steps.specs.FitSteps.{IsFitStep, Applies}
use Rattle.sound_steps.proofs.Outcomes.{ask_applies, end_applies, landed, start_sound, start_kept}
use Rattle.given_once.specs.Tokens.{unless_refused}
use Rattle.step_records.specs.StepRecords.{record_of, pass_records, end_change, end_records, ask_change, records_of, moment_of, IsNext, AreNext}
use Rattle.step_records.proofs.Passed.{passed_stored}

module _ {C : Type 0} where
  -- ---- each of a list of records

  module _ (Q : RecordOf C → Type 0) where
    each_of : (t : ℕ) (o : Option (ChangeOf C)) → ((ch : ChangeOf C) → o ≡ Some ch → Q (record_at t ch)) → All Q (record_of t o)
    each_of t None each = All-nil Q
    each_of t (Some ch) each = All-cons Q (record_at t ch) [] (each ch refl) (All-nil Q)

    each_pass : (b : Bool) (t : ℕ) → Q (record_at t change.Pass) → All Q (if b then record_at t change.Pass ∷ [] else [])
    each_pass true t holds = All-cons Q (record_at t change.Pass) [] holds (All-nil Q)
    each_pass false t holds = All-nil Q

    either : (b : Bool) (xs ys : List (RecordOf C)) → All Q xs → All Q ys → All Q (if b then xs else ys)
    either true xs ys first second = first
    either false xs ys first second = second

  -- ---- moments

  module _ (K : Pieces C) (P : Progress C) where
    pass_moment : (reading : ℕ) → All (λ r. r.at ≡ moment P.state reading) (pass_records P reading)
    pass_moment reading = each_pass (λ r. r.at ≡ moment P.state reading) (is_due P reading) (moment P.state reading) refl

    ended_moment : (reading : ℕ) (body : Body C) (o : Option Flight) → All (λ r. r.at ≡ moment P.state reading) (end_records K P reading body o)
    ended_moment reading body None = All-nil _
    ended_moment reading body (Some f) =
        let t = moment P.state reading in
        let ch = end_change K.size (start_of P reading) t f body in
        All-append (λ r. r.at ≡ t) (pass_records P reading) (record_of t ch) (pass_moment reading) (each_of (λ r. r.at ≡ t) t ch (λ ch is. refl))

    pub each_moment : (s : Step C) → All (λ r. r.at ≡ moment_of P s) (records_of K P s)
    each_moment (asks reading token c) =
        let t = moment P.state reading in
        let ch = ask_change K P (asks reading token c) in
        All-append (λ r. r.at ≡ t) (pass_records P reading) (record_of t ch) (pass_moment reading) (each_of (λ r. r.at ≡ t) t ch (λ ch is. refl))
    each_moment (begins reading conn token u) =
        either (λ r. r.at ≡ moment P.state reading) (is_some (flight_of P.state conn)) [] (pass_records P reading) (All-nil _) (pass_moment reading)
    each_moment (ends reading conn body) = ended_moment reading body (flight_of P.state conn)
    each_moment (loses reading conn) =
        either (λ r. r.at ≡ moment P.state reading) (is_some (flight_of P.state conn)) (pass_records P reading) [] (pass_moment reading) (All-nil _)
    each_moment (passes reading) = All-cons (λ r. r.at ≡ moment P.state reading) (record_at (moment P.state reading) change.Pass) [] refl (All-nil _)
    each_moment (restarts reading) =
        All-cons (λ r. r.at ≡ moment (at_kept P.state) reading) (record_at (moment (at_kept P.state) reading) (change.Boot (P.state.boot + 1))) [] refl (All-nil _)

  -- ---- what a log may have after a snapshot

  abbrev IsFit : RecordOf C → Type 0
  IsFit r = IsFitChange r.change × (is_snap_state r.change ≡ false)

  one_fit : (M : State C) (t : ℕ) (o : Option (ChangeOf C)) → Applies M o → All IsFit (record_of t o)
  one_fit M t None applies = All-nil _
  one_fit M t (Some ch) applies = All-cons IsFit (record_at t ch) [] (applies.1, applies.2) (All-nil _)

  unrefused_fit : (M : State C) (t : ℕ) (o : Option Fault) (ch : Option (ChangeOf C)) → (o ≡ None → Applies M ch) → All IsFit (record_of t (unless_refused o ch))
  unrefused_fit M t None ch applies = one_fit M t ch (applies refl)
  unrefused_fit M t (Some fault) ch applies = All-nil _

  module _ (K : Pieces C) (P : Progress C) (sound : IsSound P.state) where
    pass_fit : (reading : ℕ) → All IsFit (pass_records P reading)
    pass_fit reading = each_pass IsFit (is_due P reading) (moment P.state reading) (tt, refl)

    ended_fit : (reading : ℕ) (body : Body C) (o : Option Flight) → All IsFit (end_records K P reading body o)
    ended_fit reading body None = All-nil _
    ended_fit reading body (Some f) =
        let M = start_of P reading in
        let t = moment P.state reading in
        let N = without_flight M t f.conn in
        All-append IsFit (pass_records P reading) (record_of t (end_change K.size M t f body)) (pass_fit reading)
        (unrefused_fit N t (first_fault (end_refusals K.size M t f body)) (end_plan K.size N t (caller_of N (Some f.token)).key body f.upload).change
        (end_applies K.size M t f body (landed M t f.conn (start_kept P reading sound) (start_sound P reading sound))))

    pub each_fit : (s : Step C) → IsFitStep s → All IsFit (records_of K P s)
    each_fit (asks reading token c) fit =
        let M = start_of P reading in
        let t = moment P.state reading in
        All-append IsFit (pass_records P reading) (record_of t (ask_change K P (asks reading token c))) (pass_fit reading)
        (unrefused_fit M t (first_fault (refusals_of K M t P.words token c)) (plan_of K M t P.words token c).change (ask_applies K M t P.words token c (start_sound P reading sound) fit))
    each_fit (begins reading conn token u) fit = either IsFit (is_some (flight_of P.state conn)) [] (pass_records P reading) (All-nil _) (pass_fit reading)
    each_fit (ends reading conn body) fit = ended_fit reading body (flight_of P.state conn)
    each_fit (loses reading conn) fit = either IsFit (is_some (flight_of P.state conn)) (pass_records P reading) [] (pass_fit reading) (All-nil _)
    each_fit (passes reading) fit = All-cons IsFit (record_at (moment P.state reading) change.Pass) [] (tt, refl) (All-nil _)
    each_fit (restarts reading) fit = All-cons IsFit (record_at (moment (at_kept P.state) reading) (change.Boot (P.state.boot + 1))) [] (tt, refl) (All-nil _)

  -- ---- the next number

  abbrev Next : State C → Option (ChangeOf C) → Type 0
  Next M None = ⊤
  Next M (Some ch) = IsNext M ch

  there : {X : Type 0} (M : State C) (kind : FaultKind) (p : X → Plan C) (o : Option X) → ((x : X) → Next M (p x).change) → Next M (or_absent kind p o).change
  there M kind p None each = tt
  there M kind p (Some x) each = each x

  current : (M : State C) (p : VersionOf C → Plan C) (o : Option (VersionOf C)) → ((v : VersionOf C) → Next M (p v).change) → Next M (or_refused NoFile p o).change
  current M p None each = tt
  current M p (Some v) each = each v

  file_copied : (P : Pieces C) (M : State C) (key : Option Key) (t : ℕ) (c : CopyFile) (b : Option Bucket) (v : Option (VersionOf C)) → Next M (file_copy_on P M key t c b v).change
  file_copied P M key t c None v = tt
  file_copied P M key t c (Some b) None = tt
  file_copied P M key t c (Some b) (Some v) = refl

  part_copied : (P : Pieces C) (M : State C) (t : ℕ) (c : CopyPart) (v large : Option (VersionOf C)) → Next M (part_copy_on P t c v large).change
  part_copied P M t c None large = tt
  part_copied P M t c (Some v) None = tt
  part_copied P M t c (Some v) (Some large) = tt

  plan_next : (P : Pieces C) (M : State C) (t : ℕ) (words : List ℕ) (key : Option Key) (c : Call) → Next M (plan P M t words key c).change
  plan_next P M t words key (call.AuthorizeAccount c) = there M _ (authorize_plan c.version M t words) (option_and_then (key_by M) c.credentials) (λ k. tt)
  plan_next P M t words key (call.CreateBucket c) = refl
  plan_next P M t words key (call.UpdateBucket c) = there M NoBucket _ (bucket_at M c.bucket) (λ b. tt)
  plan_next P M t words key (call.DeleteBucket c) = there M NoBucket _ (bucket_at M c.bucket) (λ b. tt)
  plan_next P M t words key (call.ListBuckets c) = tt
  plan_next P M t words key (call.CreateKey c) = refl
  plan_next P M t words key (call.DeleteKey c) = there M NoKey (drop_key c.version M) (key_of_id M c.key) (λ k. tt)
  plan_next P M t words key (call.ListKeys c) = tt
  plan_next P M t words key (call.GetUploadUrl c) = there M NoBucket _ (bucket_at M c.bucket) (λ b. tt)
  plan_next P M t words key (call.StartLargeFile c) = there M NoBucket _ (bucket_at M c.bucket) (λ b. refl)
  plan_next P M t words key (call.GetUploadPartUrl c) = there M NoFile _ (version_at M c.bucket c.file) (λ v. tt)
  plan_next P M t words key (call.ListParts c) = there M NoFile _ (version_at M c.bucket c.file) (λ v. tt)
  plan_next P M t words key (call.FinishLargeFile c) = there M NoFile _ (version_at M c.bucket c.file) (λ v. tt)
  plan_next P M t words key (call.CancelLargeFile c) = there M NoFile _ (version_at M c.bucket c.file) (λ v. tt)
  plan_next P M t words key (call.ListUnfinishedLargeFiles c) = there M NoBucket _ (bucket_at M c.bucket) (λ b. tt)
  plan_next P M t words key (call.ListFileNames c) = there M NoBucket _ (bucket_at M c.bucket) (λ b. tt)
  plan_next P M t words key (call.ListFileVersions c) = there M NoBucket _ (bucket_at M c.bucket) (λ b. tt)
  plan_next P M t words key (call.GetFileInfo c) = there M NoFile _ (version_at M c.bucket c.file) (λ v. tt)
  plan_next P M t words key (call.HideFile c) = there M NoBucket _ (bucket_at M c.bucket) (λ b. refl)
  plan_next P M t words key (call.DeleteFileVersion c) = there M NoFile _ (version_at M c.bucket c.file) (λ v. tt)
  plan_next P M t words key (call.GetDownloadAuthorization c) = there M NoBucket _ (bucket_at M c.bucket) (λ b. tt)
  plan_next P M t words key (call.DownloadFileById c) = there M NoFile (content P.size M key c.range) (version_at M c.bucket c.file) (λ v. tt)
  plan_next P M t words key (call.DownloadFileByName c) = there M NoFile _ (bucket_named M c.bucket) (λ b. current M (content P.size M key c.range) (newest M b.num c.name) (λ v. tt))
  plan_next P M t words key (call.UpdateFileRetention c) = there M NoFile _ (version_at M c.bucket c.file) (λ v. tt)
  plan_next P M t words key (call.UpdateFileLegalHold c) = there M NoFile _ (version_at M c.bucket c.file) (λ v. tt)
  plan_next P M t words key (call.CopyFile c) = file_copied P M key t c (bucket_at M (unwrap_or c.bucket c.source.bucket)) (version_at M c.source.bucket c.source.num)
  plan_next P M t words key (call.CopyPart c) = part_copied P M t c (version_at M c.source.bucket c.source.num) (version_at M c.bucket c.file)
  plan_next P M t words key (call.Bad c) = tt

  end_next : (size : C → ℕ) (M : State C) (t : ℕ) (key : Option Key) (body : Body C) (u : UploadCall) → Next M (end_plan size M t key body u).change
  end_next size M t key body (upload.File u) = there M NoBucket (file_end size M t key body u) (bucket_at M u.bucket) (λ b. refl)
  end_next size M t key body (upload.Part u) = there M NoFile (part_end size t body u) (version_at M u.bucket u.file) (λ v. tt)
  end_next size M t key body (upload.Bad c) = tt

  stored_next : (M : State C) (ch : ChangeOf C) → IsNext M ch → IsNext (stored_part M) ch
  stored_next M (change.Settings s) next = next
  stored_next M (change.SnapState n) next = next
  stored_next M (change.SnapLarge v) next = next
  stored_next M (change.SnapExtents id pieces) next = next
  stored_next M other next = next

  one_next : (M : State C) (t : ℕ) (o : Option (ChangeOf C)) → Next M o → AreNext (stored_part M) (record_of t o)
  one_next M t None next = tt
  one_next M t (Some ch) next = (stored_next M ch next, tt)

  unrefused_next : (M : State C) (t : ℕ) (o : Option Fault) (ch : Option (ChangeOf C)) → Next M ch → AreNext (stored_part M) (record_of t (unless_refused o ch))
  unrefused_next M t None ch next = one_next M t ch next
  unrefused_next M t (Some fault) ch next = tt

  module _ (K : Pieces C) (P : Progress C) where
    after_pass : (b : Bool) (t : ℕ) (rs : List (RecordOf C)) → AreNext (stored_part (if b then with_pass P.state t else P.state)) rs → AreNext (stored_part P.state) ((if b then record_at t change.Pass ∷ [] else []) ++ rs)
    after_pass true t rs next = (tt, subst (λ S. AreNext S rs) (sym (passed_stored t P.state)) next)
    after_pass false t rs next = next

    pass_next : (b : Bool) (t : ℕ) → AreNext (stored_part P.state) (if b then record_at t change.Pass ∷ [] else [])
    pass_next true t = (tt, tt)
    pass_next false t = tt

    either_next : (b : Bool) (xs ys : List (RecordOf C)) → AreNext (stored_part P.state) xs → AreNext (stored_part P.state) ys → AreNext (stored_part P.state) (if b then xs else ys)
    either_next true xs ys first second = first
    either_next false xs ys first second = second

    ended_next : (reading : ℕ) (body : Body C) (o : Option Flight) → AreNext (stored_part P.state) (end_records K P reading body o)
    ended_next reading body None = tt
    ended_next reading body (Some f) =
        let M = start_of P reading in
        let t = moment P.state reading in
        let N = without_flight M t f.conn in
        let who = caller_of N (Some f.token) in
        after_pass (is_due P reading) t (record_of t (end_change K.size M t f body))
        (unrefused_next N t (first_fault (end_refusals K.size M t f body)) (end_plan K.size N t who.key body f.upload).change (end_next K.size N t who.key body f.upload))

    pub each_next : (s : Step C) → AreNext (stored_part P.state) (records_of K P s)
    each_next (asks reading token c) =
        let M = start_of P reading in
        let t = moment P.state reading in
        after_pass (is_due P reading) t (record_of t (ask_change K P (asks reading token c)))
        (unrefused_next M t (first_fault (refusals_of K M t P.words token c)) (plan_of K M t P.words token c).change (plan_next K M t P.words (shown_by M token c) c))
    each_next (begins reading conn token u) = either_next (is_some (flight_of P.state conn)) [] (pass_records P reading) tt (pass_next (is_due P reading) (moment P.state reading))
    each_next (ends reading conn body) = ended_next reading body (flight_of P.state conn)
    each_next (loses reading conn) = either_next (is_some (flight_of P.state conn)) (pass_records P reading) [] (pass_next (is_due P reading) (moment P.state reading)) tt
    each_next (passes reading) = (tt, tt)
    each_next (restarts reading) = (refl, tt)
