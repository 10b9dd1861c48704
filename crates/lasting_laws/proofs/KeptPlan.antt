-- An accepted call, or an upload that ends well, keeps what is locked, where it takes no lock off.
use Rattle.std.proofs.Common.{◌≡◌, ℕ, ◌<◌, ◌≤◌, ◌==◌, nat_lt, Bool, true, false, not, ◌&&◌, ◌||◌, List, [], ◌∷◌, Option, Some, None, option_and_then, unwrap_or, refl, sym, ap, ◌∙◌, arith}
use Rattle.std.specs.Prelude.{⊤}
use Rattle.std.proofs.lemmas.Bool.{false≢true}
use Rattle.std.proofs.lemmas.Bool.Decides.{nat_tests}
use Rattle.rule_table.specs.declared.cap.Cap.TheVariants.{BypassGovernance}
use Rattle.rule_table.specs.declared.fault.FaultKind.{FaultKind}
use Rattle.rule_table.specs.declared.fault.FaultKind.TheVariants.{NoBucket, NoFile, NoKey}
use Rattle.b2_types.specs.declared.bucket.Bucket.{Bucket}
use Rattle.b2_types.specs.declared.key.Key.{Key}
use Rattle.b2_types.specs.declared.kinds.Mode.{Mode}
use Rattle.b2_types.specs.declared.kinds.Mode.TheVariants as mode
use Rattle.b2_types.specs.declared.kinds.Retention.{Retention}
use Rattle.b2_types.specs.declared.version.VersionOf.{VersionOf}
use Rattle.b2_types.specs.declared.call.Call.{Call}
use Rattle.b2_types.specs.declared.call.Call.TheVariants as call
use Rattle.b2_types.specs.declared.call.CopyFile.{CopyFile}
use Rattle.b2_types.specs.declared.call.DeleteVersion.{DeleteVersion}
use Rattle.b2_types.specs.declared.call.UpdateRetention.{UpdateRetention}
use Rattle.b2_types.specs.declared.call.UpdateHold.{UpdateHold}
use Rattle.b2_types.specs.declared.record.VersionId.{VersionId}
use Rattle.b2_types.specs.declared.call.CopyPart.{CopyPart}
use Rattle.b2_types.specs.declared.upload.UploadCall.{UploadCall}
use Rattle.b2_types.specs.declared.upload.UploadCall.TheVariants as upload
use Rattle.b2_model.specs.Kinds.{is_upload, is_start, is_compliance, is_governance}
use Rattle.b2_model.specs.Body.{Body}
use Rattle.b2_model.specs.Checks.{some_and}
use Rattle.b2_model.specs.State.{State, Pieces, bucket_at}
use Rattle.b2_model.specs.Rows.{version_at}
use Rattle.b2_model.specs.Current.{current as newest}
use Rattle.b2_model.specs.Locks.{active_retention, keeps_compliance, keeps_governance, deletion_rules, retention_rules}
use Rattle.b2_model.specs.Policy.{key_by, bucket_named}
use Rattle.b2_model.specs.Shown.{may}
use Rattle.b2_model.specs.Version.{is_it}
use Rattle.b2_model.specs.Plan.{Plan, or_absent, id_of}
use Rattle.b2_model.specs.AskKeys.{authorize_plan, drop_key, key_of_id}
use Rattle.b2_model.specs.AskDownloads.{content, or_refused}
use Rattle.b2_model.specs.AskCopies.{file_copy_on, part_copy_on}
use Rattle.b2_model.specs.Ask.{plan}
use Rattle.b2_model.specs.UploadSteps.{file_end, part_end, end_plan}
use Rattle.sound_states.proofs.Tests.{both_hold, holds_both, equal_numbers}
use Rattle.sound_states.proofs.Found.{found_has}
use Rattle.sound_steps.proofs.Plans.{Pass}
use Rattle.lasting_laws.specs.Locked.{on_hold, kept_until, Lock, IsRetainedTo, IsLocked, IsInTime, is_named, bypasses, takes_off}
use Rattle.lasting_laws.proofs.Kept.{by_test, start_or_upload, locked_upload, active_for, Good, Keeps, it_back, other_than}
use Rattle.lasting_laws.proofs.KeptChange.{HoldsOut, HoldsOn, Allows}

-- ---- tests

not_not : (a : Bool) → not a ≡ false → a ≡ true
not_not true is = refl
not_not false is = absurd (false≢true (sym is))

-- the second of two that are not both so, where the first is
not_second : (a b : Bool) → a ≡ true → (a && b) ≡ false → b ≡ false
not_second true b is none = none
not_second false b is none = absurd (false≢true is)

not_below : (m n : ℕ) → not (nat_lt m n) ≡ true → n ≤ m
not_below m n is = by_test (nat_lt m n) (λ lt. let none : false ≡ true = rw lt at is in absurd (false≢true none)) (λ above. grind (arith, nat_tests, above))

-- a retention is not bypassed
abbrev Unbypassed : Lock → Bool → Type 0
Unbypassed on_hold bypassed = ⊤
Unbypassed (kept_until n) bypassed = bypassed ≡ false

unbypassed : (lock : Lock) (a b : Bool) → a ≡ true → Unbypassed lock (a && b) → Unbypassed lock b
unbypassed on_hold a b is none = tt
unbypassed (kept_until n) a b is none = not_second a b is none

deletion_unbypassed : (lock : Lock) (id : VersionId) (key : Option Key) (c : DeleteVersion) → takes_off lock id key (call.DeleteFileVersion c) ≡ false → Unbypassed lock (is_named c.bucket c.file id && bypasses c.bypass key)
deletion_unbypassed on_hold id key c none = tt
deletion_unbypassed (kept_until n) id key c none = none

hold_stays : (lock : Lock) (id : VersionId) (key : Option Key) (c : UpdateHold) → takes_off lock id key (call.UpdateFileLegalHold c) ≡ false → is_named c.bucket c.file id ≡ true → HoldsOn lock c.hold
hold_stays on_hold id key c none names = not_not c.hold (not_second (is_named c.bucket c.file id) (not c.hold) names none)
hold_stays (kept_until n) id key c none names = tt

-- ---- the rules of Object Lock

-- a retention of either mode gives way to a bypass that may be alone
only_bypassed : (m : Mode) (stays asked allowed : Bool) → (is_compliance m && not stays) ≡ false → (is_governance m && not stays && not asked) ≡ false → (is_governance m && not stays && asked && not allowed) ≡ false
    → (asked && allowed) ≡ false → stays ≡ true
only_bypassed m true asked allowed p12 p13 p14 none = refl
only_bypassed mode.Compliance false asked allowed p12 p13 p14 none = absurd (false≢true (sym p12))
only_bypassed mode.Governance false false allowed p12 p13 p14 none = absurd (false≢true (sym p13))
only_bypassed mode.Governance false true true p12 p13 p14 none = absurd (false≢true (sym none))
only_bypassed mode.Governance false true false p12 p13 p14 none = absurd (false≢true (sym p14))

retained_on : (n : ℕ) (r : Retention) (new : Option Retention) → n ≤ r.until → keeps_governance r new ≡ true → IsRetainedTo n new
retained_on n r None before stays = absurd (false≢true stays)
retained_on n r (Some later) before stays = let above = not_below later.until r.until stays in omega (arith, before, above)

weaker_keeps : (m : Mode) (n : ℕ) (r : Retention) (new : Option Retention) (asked allowed : Bool) → r.mode ≡ m → n ≤ r.until
    → (is_compliance m && not (keeps_compliance r new)) ≡ false
    → ((is_governance m && not (keeps_governance r new)) && not asked) ≡ false
    → ((is_governance m && not (keeps_governance r new)) && asked && not allowed) ≡ false
    → (asked && allowed) ≡ false → IsRetainedTo n new
weaker_keeps mode.Compliance n r None asked allowed is before p12 p13 p14 none = absurd (false≢true (sym p12))
weaker_keeps mode.Compliance n r (Some new) asked allowed is before p12 p13 p14 none =
    retained_on n r (Some new) before (both_hold (is_compliance new.mode) (keeps_governance r (Some new)) (not_not (keeps_compliance r (Some new)) p12)).1
weaker_keeps mode.Governance n r new asked allowed is before p12 p13 p14 none =
    retained_on n r new before (only_bypassed mode.Governance (keeps_governance r new) asked allowed refl p13 p14 none)

module _ {C : Type 0} where
  -- a locked version is not deleted
  not_deleted : (lock : Lock) (t : ℕ) (w : VersionOf C) (asked allowed : Bool) → IsInTime lock t → IsLocked lock w → Unbypassed lock (asked && allowed) → Pass (deletion_rules t w asked allowed) → ⊥
  not_deleted on_hold t w asked allowed before locked none pass =
      let held : (is_upload w.action && w.hold) ≡ true = holds_both (is_upload w.action) w.hold locked.0 locked.1 in
      false≢true (sym pass.0 ∙ held)
  not_deleted (kept_until n) t w asked allowed before locked none pass =
      let active = active_for n t w w.retention refl locked.0 locked.1 before in
      let r = active.0 in
      let p12 : is_compliance r.mode ≡ false = ap (some_and (λ (x : Retention). is_compliance x.mode)) (sym active.1) ∙ pass.1.0 in
      let p13 : (is_governance r.mode && not asked) ≡ false = ap (λ o. some_and (λ (x : Retention). is_governance x.mode) o && not asked) (sym active.1) ∙ pass.1.1.0 in
      let p14 : (is_governance r.mode && asked && not allowed) ≡ false = ap (λ o. some_and (λ (x : Retention). is_governance x.mode) o && asked && not allowed) (sym active.1) ∙ pass.1.1.1.0 in
      governed r.mode asked allowed p12 p13 p14 none
    where
      governed : (m : Mode) (asked allowed : Bool) → is_compliance m ≡ false → (is_governance m && not asked) ≡ false → (is_governance m && asked && not allowed) ≡ false → (asked && allowed) ≡ false → ⊥
      governed mode.Compliance asked allowed p12 p13 p14 none = false≢true (sym p12)
      governed mode.Governance false allowed p12 p13 p14 none = false≢true (sym p13)
      governed mode.Governance true true p12 p13 p14 none = false≢true (sym none)
      governed mode.Governance true false p12 p13 p14 none = false≢true (sym p14)

  -- the retention that takes the place of an active one ends no earlier
  not_shorter : (n t : ℕ) (w : VersionOf C) (new : Option Retention) (asked allowed : Bool) → t < n → IsLocked (kept_until n) w → (asked && allowed) ≡ false → Pass (retention_rules (active_retention t w) new asked allowed) → IsRetainedTo n new
  not_shorter n t w new asked allowed before locked none pass =
      let active = active_for n t w w.retention refl locked.0 locked.1 before in
      let r = active.0 in
      let p12 : (is_compliance r.mode && not (keeps_compliance r new)) ≡ false = ap (some_and (λ (x : Retention). is_compliance x.mode && not (keeps_compliance x new))) (sym active.1) ∙ pass.0 in
      let p13 : ((is_governance r.mode && not (keeps_governance r new)) && not asked) ≡ false =
      ap (λ o. some_and (λ (x : Retention). is_governance x.mode && not (keeps_governance x new)) o && not asked) (sym active.1) ∙ pass.1.0 in
      let p14 : ((is_governance r.mode && not (keeps_governance r new)) && asked && not allowed) ≡ false =
      ap (λ o. some_and (λ (x : Retention). is_governance x.mode && not (keeps_governance x new)) o && asked && not allowed) (sym active.1) ∙ pass.1.1.0 in
      weaker_keeps r.mode n r new asked allowed refl active.2 p12 p13 p14 none

  retention_stays : (lock : Lock) (t : ℕ) (w : VersionOf C) (id : VersionId) (key : Option Key) (c : UpdateRetention) → IsInTime lock t → IsLocked lock w → takes_off lock id key (call.UpdateFileRetention c) ≡ false
      → is_named c.bucket c.file id ≡ true → Pass (retention_rules (active_retention t w) c.retention (unwrap_or c.bypass false) (may key BypassGovernance)) → HoldsOut lock c.retention
  retention_stays on_hold t w id key c before locked none names pass = tt
  retention_stays (kept_until n) t w id key c before locked none names pass =
      not_shorter n t w c.retention (unwrap_or c.bypass false) (may key BypassGovernance) before locked (not_second (is_named c.bucket c.file id) (bypasses c.bypass key) names none) pass

module _ {C : Type 0} (lock : Lock) (v : VersionOf C) where
  abbrev pub Fits : State C → Plan C → Type 0
  Fits M p = Pass p.own → Allows lock v M p.change

  there : {X : Type 0} (M : State C) (kind : FaultKind) (p : X → Plan C) (o : Option X) → ((x : X) → o ≡ Some x → Fits M (p x)) → Fits M (or_absent kind p o)
  there M kind p None each = λ none. tt
  there M kind p (Some x) each = each x refl

  -- what is found of a state is good
  good_at : (M : State C) (bucket num : ℕ) (w : VersionOf C) → Keeps lock v M → version_at M bucket num ≡ Some w → ((w.bucket == bucket && w.num == num) ≡ true) × Good lock v w
  good_at M bucket num w keeps is = found_has (λ u. u.bucket == bucket && u.num == num) (Good lock v) M.versions w keeps.each is

  start_apart : (M : State C) (bucket num : ℕ) (w : VersionOf C) → Keeps lock v M → version_at M bucket num ≡ Some w → not (is_start w.action) ≡ false → is_it (id_of w) v ≡ false
  start_apart M bucket num w keeps is starts =
      other_than lock v w (good_at M bucket num w keeps is).1 (λ locked. start_or_upload w.action (locked_upload lock w locked) (not_not (is_start w.action) starts))

  -- the call that finds the version names it
  named : (M : State C) (bucket num : ℕ) (w : VersionOf C) → Keeps lock v M → version_at M bucket num ≡ Some w → is_it (id_of w) v ≡ true → is_named bucket num (id_of v) ≡ true
  named M bucket num w keeps is it =
      let at = both_hold (w.bucket == bucket) (w.num == num) (good_at M bucket num w keeps is).0 in
      let bucket_is = equal_numbers w.bucket bucket at.0 in
      let num_is = equal_numbers w.num num at.1 in
      let back = it_back w v it in
      rw (sym bucket_is, sym num_is) back

  deletion_allowed : (M : State C) (t : ℕ) (w : VersionOf C) (c : DeleteVersion) (key : Option Key) → Keeps lock v M → IsInTime lock t → takes_off lock (id_of v) key (call.DeleteFileVersion c) ≡ false
      → version_at M c.bucket c.file ≡ Some w → Pass (deletion_rules t w (unwrap_or c.bypass false) (may key BypassGovernance)) → is_it (id_of w) v ≡ false
  deletion_allowed M t w c key keeps before none is pass = by_test (is_it (id_of w) v)
      (λ it. absurd (not_deleted lock t w (unwrap_or c.bypass false) (may key BypassGovernance) before ((good_at M c.bucket c.file w keeps is).1 (it_back w v it)).0
      (unbypassed lock (is_named c.bucket c.file (id_of v)) (bypasses c.bypass key) (named M c.bucket c.file w keeps is it) (deletion_unbypassed lock (id_of v) key c none)) pass))
      (λ differ. differ)

  file_copy_fits : (P : Pieces C) (M : State C) (key : Option Key) (t : ℕ) (c : CopyFile) (b : Option Bucket) (w : Option (VersionOf C)) → Fits M (file_copy_on P M key t c b w)
  file_copy_fits P M key t c None w = λ none. tt
  file_copy_fits P M key t c (Some b) None = λ none. tt
  file_copy_fits P M key t c (Some b) (Some w) = λ none. refl

  part_copy_fits : (P : Pieces C) (M : State C) (t : ℕ) (c : CopyPart) (bucket num : ℕ) (w large : Option (VersionOf C)) → Keeps lock v M → version_at M bucket num ≡ large → Fits M (part_copy_on P t c w large)
  part_copy_fits P M t c bucket num None large keeps is = λ none. tt
  part_copy_fits P M t c bucket num (Some w) None keeps is = λ none. tt
  part_copy_fits P M t c bucket num (Some w) (Some large) keeps is = λ none. start_apart M bucket num large keeps is none.1.0

  newest_fits : (M : State C) (p : VersionOf C → Plan C) (o : Option (VersionOf C)) → ((w : VersionOf C) → Fits M (p w)) → Fits M (or_refused NoFile p o)
  newest_fits M p None each = λ none. tt
  newest_fits M p (Some w) each = each w

  -- ---- ends of uploads

  pub end_fits : (size : C → ℕ) (M : State C) (t : ℕ) (key : Option Key) (body : Body C) (u : UploadCall) → Keeps lock v M → Fits M (end_plan size M t key body u)
  end_fits size M t key body (upload.File u) keeps = there M NoBucket (file_end size M t key body u) (bucket_at M u.bucket) (λ b is none. refl)
  end_fits size M t key body (upload.Part u) keeps = there M NoFile (part_end size t body u) (version_at M u.bucket u.file) (λ w is none. start_apart M u.bucket u.file w keeps is none.0)
  end_fits size M t key body (upload.Bad c) keeps = λ none. tt

  -- ---- calls

  pub plan_fits : (P : Pieces C) (M : State C) (t : ℕ) (words : List ℕ) (key : Option Key) (c : Call) → Keeps lock v M → IsInTime lock t → takes_off lock (id_of v) key c ≡ false → Fits M (plan P M t words key c)
  plan_fits P M t words key (call.AuthorizeAccount c) keeps before none = there M _ (authorize_plan c.version M t words) (option_and_then (key_by M) c.credentials) (λ k is pass. tt)
  plan_fits P M t words key (call.CreateBucket c) keeps before none = λ pass. tt
  plan_fits P M t words key (call.UpdateBucket c) keeps before none = there M NoBucket _ (bucket_at M c.bucket) (λ b is pass. tt)
  plan_fits P M t words key (call.DeleteBucket c) keeps before none = there M NoBucket _ (bucket_at M c.bucket) (λ b is pass. tt)
  plan_fits P M t words key (call.ListBuckets c) keeps before none = λ pass. tt
  plan_fits P M t words key (call.CreateKey c) keeps before none = λ pass. tt
  plan_fits P M t words key (call.DeleteKey c) keeps before none = there M NoKey (drop_key c.version M) (key_of_id M c.key) (λ k is pass. tt)
  plan_fits P M t words key (call.ListKeys c) keeps before none = λ pass. tt
  plan_fits P M t words key (call.GetUploadUrl c) keeps before none = there M NoBucket _ (bucket_at M c.bucket) (λ b is pass. tt)
  plan_fits P M t words key (call.StartLargeFile c) keeps before none = there M NoBucket _ (bucket_at M c.bucket) (λ b is pass. refl)
  plan_fits P M t words key (call.GetUploadPartUrl c) keeps before none = there M NoFile _ (version_at M c.bucket c.file) (λ w is pass. tt)
  plan_fits P M t words key (call.ListParts c) keeps before none = there M NoFile _ (version_at M c.bucket c.file) (λ w is pass. tt)
  plan_fits P M t words key (call.FinishLargeFile c) keeps before none = there M NoFile _ (version_at M c.bucket c.file) (λ w is pass. start_apart M c.bucket c.file w keeps is pass.0)
  plan_fits P M t words key (call.CancelLargeFile c) keeps before none = there M NoFile _ (version_at M c.bucket c.file) (λ w is pass. start_apart M c.bucket c.file w keeps is pass.0)
  plan_fits P M t words key (call.ListUnfinishedLargeFiles c) keeps before none = there M NoBucket _ (bucket_at M c.bucket) (λ b is pass. tt)
  plan_fits P M t words key (call.ListFileNames c) keeps before none = there M NoBucket _ (bucket_at M c.bucket) (λ b is pass. tt)
  plan_fits P M t words key (call.ListFileVersions c) keeps before none = there M NoBucket _ (bucket_at M c.bucket) (λ b is pass. tt)
  plan_fits P M t words key (call.GetFileInfo c) keeps before none = there M NoFile _ (version_at M c.bucket c.file) (λ w is pass. tt)
  plan_fits P M t words key (call.HideFile c) keeps before none = there M NoBucket _ (bucket_at M c.bucket) (λ b is pass. refl)
  plan_fits P M t words key (call.DeleteFileVersion c) keeps before none = there M NoFile _ (version_at M c.bucket c.file) (λ w is pass. deletion_allowed M t w c key keeps before none is pass.1)
  plan_fits P M t words key (call.GetDownloadAuthorization c) keeps before none = there M NoBucket _ (bucket_at M c.bucket) (λ b is pass. tt)
  plan_fits P M t words key (call.DownloadFileById c) keeps before none = there M NoFile (content P.size M key c.range) (version_at M c.bucket c.file) (λ w is pass. tt)
  plan_fits P M t words key (call.DownloadFileByName c) keeps before none =
      there M NoFile _ (bucket_named M c.bucket) (λ b is. newest_fits M (content P.size M key c.range) (newest M b.num c.name) (λ w pass. tt))
  plan_fits P M t words key (call.UpdateFileRetention c) keeps before none = there M NoFile _ (version_at M c.bucket c.file) (λ w is pass it.
      retention_stays lock t w (id_of v) key c before ((good_at M c.bucket c.file w keeps is).1 (it_back w v it)).0 none (named M c.bucket c.file w keeps is it) pass.1.1.1)
  plan_fits P M t words key (call.UpdateFileLegalHold c) keeps before none = there M NoFile _ (version_at M c.bucket c.file) (λ w is pass it.
      hold_stays lock (id_of v) key c none (named M c.bucket c.file w keeps is it))
  plan_fits P M t words key (call.CopyFile c) keeps before none = file_copy_fits P M key t c (bucket_at M (unwrap_or c.bucket c.source.bucket)) (version_at M c.source.bucket c.source.num)
  plan_fits P M t words key (call.CopyPart c) keeps before none = part_copy_fits P M t c c.bucket c.file (version_at M c.source.bucket c.source.num) (version_at M c.bucket c.file) keeps refl
  plan_fits P M t words key (call.Bad c) keeps before none = λ pass. tt
