-- The record that an accepted call writes applies.
use Rattle.std.proofs.Common.{◌≡◌, ℕ, ◌<◌, ◌==◌, Bool, true, false, not, ◌&&◌, List, [], ◌∷◌, All, Option, Some, None, option_and_then, unwrap_or, find, if◌then◌else◌, refl, sym, ap, subst, ◌∙◌, arith}
use Rattle.std.specs.Prelude.{⊤}
use Rattle.std.specs.Option.{is_some, is_none}
use Rattle.std.specs.List.{AllPairs, list_any}
use Rattle.std.proofs.lemmas.Bool.{false≢true}
use Rattle.std.proofs.lemmas.Bool.Decides.{nat_tests}
use Rattle.std.proofs.lemmas.List.Elements.{All-cons}
use Rattle.rule_table.specs.declared.fault.FaultKind.{FaultKind}
use Rattle.rule_table.specs.declared.fault.FaultKind.TheVariants.{NoBucket, NoFile, NoKey}
use Rattle.b2_types.specs.declared.bucket.Bucket.{Bucket}
use Rattle.b2_types.specs.declared.bucket.Rule.{Rule}
use Rattle.b2_types.specs.declared.key.Key.{Key}
use Rattle.b2_types.specs.declared.version.VersionOf.{VersionOf}
use Rattle.b2_types.specs.declared.record.ChangeOf.TheVariants as change
use Rattle.b2_types.specs.declared.call.Call.{Call}
use Rattle.b2_types.specs.declared.call.Call.TheVariants as call
use Rattle.b2_types.specs.declared.call.CreateBucket.{CreateBucket}
use Rattle.b2_types.specs.declared.call.UpdateBucket.{UpdateBucket}
use Rattle.b2_types.specs.declared.call.CreateKey.{CreateKey}
use Rattle.b2_types.specs.declared.call.CopyFile.{CopyFile}
use Rattle.b2_types.specs.declared.call.CopyPart.{CopyPart}
use Rattle.b2_types.specs.declared.upload.DigestRule.{DigestRule}
use Rattle.b2_types.specs.declared.upload.DigestRule.TheVariants as rule
use Rattle.b2_types.specs.declared.upload.UploadCall.{UploadCall}
use Rattle.b2_types.specs.declared.upload.UploadCall.TheVariants as upload
use Rattle.b2_model.specs.Kinds.{is_upload, is_start}
use Rattle.b2_model.specs.Body.{Body}
use Rattle.b2_model.specs.Checks.{Check, first_fault, some_and}
use Rattle.b2_model.specs.State.{State, Pieces, bucket_at, key_at}
use Rattle.b2_model.specs.Rows.{version_at}
use Rattle.b2_model.specs.Current.{current as newest}
use Rattle.b2_model.specs.Policy.{is_same_name, key_by, bucket_named}
use Rattle.b2_types.specs.LifecycleRules.{are_rules}
use Rattle.b2_model.specs.Stored.{stands, may_make, may_be, is_number, applies_change}
use Rattle.b2_model.specs.Plan.{Plan, or_absent, id_of}
use Rattle.b2_model.specs.AskBuckets.{create_bucket, update_bucket, updated_bucket, new_bucket}
use Rattle.b2_model.specs.AskKeys.{authorize_plan, create_key, drop_key, key_of_id}
use Rattle.b2_model.specs.AskFiles.{is_other_name}
use Rattle.b2_model.specs.AskDownloads.{content, or_refused}
use Rattle.b2_model.specs.AskCopies.{file_copy_on, part_copy_on}
use Rattle.b2_model.specs.Ask.{plan}
use Rattle.b2_model.specs.UploadSteps.{mark_of, file_end, part_end, end_plan}
use Rattle.machine_laws.proofs.Passed.{passed}
use Rattle.sound_states.specs.Sound.{IsGiven, IsSound, IsUploadMark}
use Rattle.sound_steps.specs.FitSteps.{IsFitCall, Applies}
use Rattle.sound_states.proofs.Ascending.{all_from, pairs_head, pairs_tail}
use Rattle.sound_states.proofs.Tests.{both_hold, holds_both, neither, equal_numbers, not_equal}
use Rattle.sound_states.proofs.Found.{found_has, found_passes, none_found, some_found, any_of, none_weaker, none_of_all, same_found, unlike, a_number}
use Rattle.sound_states.proofs.Buckets.{has_name, name_back}
use Rattle.sound_states.proofs.Passed.{free_number}

-- ---- numbers

not_not : (a : Bool) → not a ≡ false → a ≡ true
not_not true is = refl
not_not false is = absurd (false≢true (sym is))

-- no rule of the list fails, one after the other
abbrev pub Pass : List Check → Type 0
Pass [] = ⊤
Pass (c ∷ cs) = (c.fails ≡ false) × Pass cs

pub all_pass : (cs : List Check) → first_fault cs ≡ None → Pass cs
all_pass [] none = tt
all_pass (c ∷ cs) none = let both = passed c cs c.fails refl none in (both.0, all_pass cs both.1)

upload_mark : (r : DigestRule) → IsUploadMark (mark_of r)
upload_mark (rule.Given digest) = tt
upload_mark rule.AtEnd = tt
upload_mark rule.NotVerified = tt

-- ---- names of buckets

unlike_itself : (n : ℕ) (same : Bool) → (not (n == n) && same) ≡ false
unlike_itself n same = let itself : (n == n) ≡ true = grind (arith, nat_tests) in rw itself refl

-- no other bucket has the name of one that stands
others_named : (n : ℕ) (bs : List Bucket) (b : Bucket) → AllPairs (λ x y. is_same_name x.name y.name ≡ false) bs → find (λ a. a.num == n) bs ≡ Some b → All (λ a. has_name b a ≡ false) bs
others_named n [] b names is = λ k d within. absurd (omega (arith, within))
others_named n (x ∷ xs) b names is = here (x.num == n) is (others_named n xs b (pairs_tail R x xs names))
  where
    R : Bucket → Bucket → Type 0
    R x y = is_same_name x.name y.name ≡ false

    here : (c : Bool) → (if c then Some x else find (λ a. a.num == n) xs) ≡ Some b → (find (λ a. a.num == n) xs ≡ Some b → All (λ a. has_name b a ≡ false) xs) → All (λ a. has_name b a ≡ false) (x ∷ xs)
    here true at rest =
        subst (λ z. All (λ a. has_name z a ≡ false) (x ∷ xs)) (same_found x b at)
        (All-cons (λ a. has_name x a ≡ false) x xs (unlike_itself x.num (is_same_name x.name x.name))
        (all_from (λ y. is_same_name x.name y.name ≡ false) (λ a. has_name x a ≡ false) xs (λ a apart. unlike x a (name_back a.name x.name ∙ apart)) (pairs_head R x xs names)))
    here false at rest =
        All-cons (λ a. has_name b a ≡ false) x xs
        (unlike b x (found_has (λ a. a.num == n) (λ y. is_same_name x.name y.name ≡ false) xs b (pairs_head R x xs names) at).1) (rest at)

updated_rules : (given : Option (List Rule)) (old : List Rule) → are_rules (unwrap_or given []) ≡ true → are_rules old ≡ true → are_rules (unwrap_or given old) ≡ true
updated_rules None old fit stood = stood
updated_rules (Some rules) old fit stood = fit

module _ {C : Type 0} where
  -- ---- what is found in a state

  bucket_again : (M : State C) (n : ℕ) (b : Bucket) → bucket_at M n ≡ Some b → bucket_at M b.num ≡ Some b
  bucket_again M n b is = ap (bucket_at M) (equal_numbers b.num n (found_passes (λ a. a.num == n) M.buckets b is)) ∙ is

  version_again : (M : State C) (bucket num : ℕ) (v : VersionOf C) → version_at M bucket num ≡ Some v → version_at M v.bucket v.num ≡ Some v
  version_again M bucket num v is =
      let both = both_hold (v.bucket == bucket) (v.num == num) (found_passes (λ w. w.bucket == bucket && w.num == num) M.versions v is) in
      ap (λ n. version_at M n v.num) (equal_numbers v.bucket bucket both.0) ∙ ap (version_at M bucket) (equal_numbers v.num num both.1) ∙ is

  it_stands : (M : State C) (bucket num : ℕ) (v : VersionOf C) (test : VersionOf C → Bool) → version_at M bucket num ≡ Some v → test v ≡ true → stands M (id_of v) test ≡ true
  it_stands M bucket num v test is passes = ap (some_and test) (version_again M bucket num v is) ∙ passes

  -- the next version may be made in a bucket that stands
  next_may : (M : State C) → IsSound M → (bucket : ℕ) → is_some (bucket_at M bucket) ≡ true → may_make M bucket M.next_version ≡ true
  next_may M sound bucket there =
      let first = sound.versions.first in
      let above : not (M.next_version == 0) ≡ true = ap not (not_equal M.next_version 0 (λ same. absurd (omega (arith, first, same)))) in
      let free = free_number (λ v. v.num) M.next_version M.versions (all_from (λ v. IsGiven M.next_version v.num) (λ v. v.num < M.next_version) M.versions (λ v given. given.1) sound.versions.given) in
      holds_both (is_some (bucket_at M bucket) && not (M.next_version == 0)) (not (list_any (λ v. v.num == M.next_version) M.versions))
      (holds_both (is_some (bucket_at M bucket)) (not (M.next_version == 0)) there above) (ap not free)

  -- ---- plans

  abbrev pub Fits : State C → Plan C → Type 0
  Fits M p = Pass p.own → Applies M p.change

  there : {X : Type 0} (M : State C) (kind : FaultKind) (p : X → Plan C) (o : Option X) → ((x : X) → o ≡ Some x → Fits M (p x)) → Fits M (or_absent kind p o)
  there M kind p None each = λ none. tt
  there M kind p (Some x) each = each x refl

  nothing : {X : Type 0} (M : State C) (kind : FaultKind) (p : X → Plan C) (o : Option X) → ((x : X) → (p x).change ≡ None) → Fits M (or_absent kind p o)
  nothing M kind p None each = λ none. tt
  nothing M kind p (Some x) each = λ none. subst (Applies M) (sym (each x)) tt

  create_fits : (M : State C) (key : Option Key) (c : CreateBucket) → IsSound M → are_rules (unwrap_or c.rules []) ≡ true → Fits M (create_bucket M key c)
  create_fits M key c sound fit none =
      let b = new_bucket M c in
      let number = a_number M.next_bucket sound.buckets.first sound.buckets.last none.1.1.0 in
      let free = free_number (λ a. a.num) M.next_bucket M.buckets (all_from (λ a. IsGiven M.next_bucket a.num) (λ a. a.num < M.next_bucket) M.buckets (λ a given. given.1) sound.buckets.given) in
      let names = none_weaker (has_name b) (λ a. is_same_name a.name c.name) (λ a apart. unlike b a apart) M.buckets none.0 in (
        holds_both (is_number M.next_bucket && is_none (bucket_at M M.next_bucket)) (may_be M b)
            (holds_both (is_number M.next_bucket) (is_none (bucket_at M M.next_bucket)) number (none_found (λ a. a.num == M.next_bucket) M.buckets free))
            (holds_both (not (list_any (has_name b) M.buckets)) (are_rules b.rules) (ap not names) fit),
        tt,
        refl,
      )

  update_fits : (M : State C) (key : Option Key) (c : UpdateBucket) → IsSound M → are_rules (unwrap_or c.rules []) ≡ true → Fits M (update_bucket M key c)
  update_fits M key c sound fit = there M NoBucket _ (bucket_at M c.bucket) (λ b is none.
      let names = none_of_all (has_name b) M.buckets (others_named c.bucket M.buckets b sound.buckets.names is) in
      let rules = (found_has (λ a. a.num == c.bucket) (λ a. are_rules a.rules ≡ true) M.buckets b sound.buckets.rules is).1 in (
        holds_both (is_some (bucket_at M b.num)) (may_be M (updated_bucket c b)) (ap is_some (bucket_again M c.bucket b is))
            (holds_both (not (list_any (has_name b) M.buckets)) (are_rules (unwrap_or c.rules b.rules)) (ap not names) (updated_rules c.rules b.rules fit rules)),
        tt,
        refl,
      ))

  create_key_fits : (M : State C) (key : Option Key) (t : ℕ) (words : List ℕ) (c : CreateKey) → IsSound M → Fits M (create_key M key t words c)
  create_key_fits M key t words c sound none =
      let number = a_number M.next_key sound.keys.first sound.keys.last none.1.1.0 in
      let free = free_number (λ k. k.num) M.next_key M.keys sound.keys.given in
      (holds_both (is_number M.next_key) (is_none (key_at M M.next_key)) number (none_found (λ k. k.num == M.next_key) M.keys free), tt, refl)

  delete_key_fits : (M : State C) (k : Key) (id : List ℕ) → key_of_id M id ≡ Some k → (k.num == 0) ≡ false → applies_change M (change.KeyDrop k.num) ≡ true
  delete_key_fits M k id is other =
      let itself : (k.num == k.num) ≡ true = grind (arith, nat_tests) in
      holds_both (not (k.num == 0)) (is_some (key_at M k.num)) (ap not other) (some_found (λ a. a.num == k.num) M.keys (any_of (λ a. a.num == k.num) _ M.keys k is itself))

  file_copy_fits : (P : Pieces C) (M : State C) (key : Option Key) (t : ℕ) (c : CopyFile) (n : ℕ) (b : Option Bucket) (v : Option (VersionOf C)) → IsSound M → bucket_at M n ≡ b → Fits M (file_copy_on P M key t c b v)
  file_copy_fits P M key t c n None v sound is none = tt
  file_copy_fits P M key t c n (Some b) None sound is none = tt
  file_copy_fits P M key t c n (Some b) (Some v) sound is none = (next_may M sound b.num (ap is_some (bucket_again M n b is)), tt, refl)

  part_copy_fits : (P : Pieces C) (M : State C) (t : ℕ) (c : CopyPart) (bucket num : ℕ) (v large : Option (VersionOf C)) → version_at M bucket num ≡ large → Fits M (part_copy_on P t c v large)
  part_copy_fits P M t c bucket num None large is none = tt
  part_copy_fits P M t c bucket num (Some v) None is none = tt
  part_copy_fits P M t c bucket num (Some v) (Some large) is none =
      (it_stands M bucket num large (λ w. is_start w.action) is (not_not (is_start large.action) none.1.0), tt, refl)

  pub plan_fits : (P : Pieces C) (M : State C) (t : ℕ) (words : List ℕ) (key : Option Key) (c : Call) → IsSound M → IsFitCall c → Fits M (plan P M t words key c)
  plan_fits P M t words key (call.AuthorizeAccount c) sound fit = nothing M _ (authorize_plan c.version M t words) (option_and_then (key_by M) c.credentials) (λ k. refl)
  plan_fits P M t words key (call.CreateBucket c) sound fit = create_fits M key c sound fit
  plan_fits P M t words key (call.UpdateBucket c) sound fit = update_fits M key c sound fit
  plan_fits P M t words key (call.DeleteBucket c) sound fit = there M NoBucket _ (bucket_at M c.bucket) (λ b is none.
      (holds_both (is_some (bucket_at M b.num)) (not (list_any (λ v. v.bucket == b.num) M.versions)) (ap is_some (bucket_again M c.bucket b is)) (ap not none.0), tt, refl))
  plan_fits P M t words key (call.ListBuckets c) sound fit = λ none. tt
  plan_fits P M t words key (call.CreateKey c) sound fit = create_key_fits M key t words c sound
  plan_fits P M t words key (call.DeleteKey c) sound fit = there M NoKey (drop_key c.version M) (key_of_id M c.key) (λ k is none. (delete_key_fits M k c.key is none.0, tt, refl))
  plan_fits P M t words key (call.ListKeys c) sound fit = λ none. tt
  plan_fits P M t words key (call.GetUploadUrl c) sound fit = nothing M NoBucket _ (bucket_at M c.bucket) (λ b. refl)
  plan_fits P M t words key (call.StartLargeFile c) sound fit = there M NoBucket _ (bucket_at M c.bucket) (λ b is none. (next_may M sound c.bucket (ap is_some is), tt, refl))
  plan_fits P M t words key (call.GetUploadPartUrl c) sound fit = nothing M NoFile _ (version_at M c.bucket c.file) (λ v. refl)
  plan_fits P M t words key (call.ListParts c) sound fit = nothing M NoFile _ (version_at M c.bucket c.file) (λ v. refl)
  plan_fits P M t words key (call.FinishLargeFile c) sound fit = there M NoFile _ (version_at M c.bucket c.file) (λ v is none.
      (it_stands M c.bucket c.file v (λ w. is_start w.action) is (not_not (is_start v.action) none.0), tt, refl))
  plan_fits P M t words key (call.CancelLargeFile c) sound fit = there M NoFile _ (version_at M c.bucket c.file) (λ v is none.
      (it_stands M c.bucket c.file v (λ w. is_start w.action) is (not_not (is_start v.action) none.0), tt, refl))
  plan_fits P M t words key (call.ListUnfinishedLargeFiles c) sound fit = nothing M NoBucket _ (bucket_at M c.bucket) (λ b. refl)
  plan_fits P M t words key (call.ListFileNames c) sound fit = nothing M NoBucket _ (bucket_at M c.bucket) (λ b. refl)
  plan_fits P M t words key (call.ListFileVersions c) sound fit = nothing M NoBucket _ (bucket_at M c.bucket) (λ b. refl)
  plan_fits P M t words key (call.GetFileInfo c) sound fit = nothing M NoFile _ (version_at M c.bucket c.file) (λ v. refl)
  plan_fits P M t words key (call.HideFile c) sound fit = there M NoBucket _ (bucket_at M c.bucket) (λ b is none. (next_may M sound b.num (ap is_some (bucket_again M c.bucket b is)), tt, refl))
  plan_fits P M t words key (call.DeleteFileVersion c) sound fit = there M NoFile _ (version_at M c.bucket c.file) (λ v is none. (it_stands M c.bucket c.file v (λ w. true) is refl, tt, refl))
  plan_fits P M t words key (call.GetDownloadAuthorization c) sound fit = nothing M NoBucket _ (bucket_at M c.bucket) (λ b. refl)
  plan_fits P M t words key (call.DownloadFileById c) sound fit = nothing M NoFile (content P.size M key c.range) (version_at M c.bucket c.file) (λ v. refl)
  plan_fits P M t words key (call.DownloadFileByName c) sound fit = nothing M NoFile _ (bucket_named M c.bucket) (λ b. no_change (content P.size M key c.range) (newest M b.num c.name) (λ v. refl))
    where
      no_change : (p : VersionOf C → Plan C) (o : Option (VersionOf C)) → ((v : VersionOf C) → (p v).change ≡ None) → (or_refused NoFile p o).change ≡ None
      no_change p None each = refl
      no_change p (Some v) each = each v
  plan_fits P M t words key (call.UpdateFileRetention c) sound fit = there M NoFile _ (version_at M c.bucket c.file) (λ v is none.
      (it_stands M c.bucket c.file v (λ w. is_upload w.action) is (not_not (is_upload v.action) (neither (is_other_name v c.name) (not (is_upload v.action)) none.0).1), tt, refl))
  plan_fits P M t words key (call.UpdateFileLegalHold c) sound fit = there M NoFile _ (version_at M c.bucket c.file) (λ v is none.
      (it_stands M c.bucket c.file v (λ w. is_upload w.action) is (not_not (is_upload v.action) (neither (is_other_name v c.name) (not (is_upload v.action)) none.0).1), tt, refl))
  plan_fits P M t words key (call.CopyFile c) sound fit =
      file_copy_fits P M key t c (unwrap_or c.bucket c.source.bucket) (bucket_at M (unwrap_or c.bucket c.source.bucket)) (version_at M c.source.bucket c.source.num) sound refl
  plan_fits P M t words key (call.CopyPart c) sound fit = part_copy_fits P M t c c.bucket c.file (version_at M c.source.bucket c.source.num) (version_at M c.bucket c.file) refl
  plan_fits P M t words key (call.Bad c) sound fit = λ none. tt

  -- ---- ends of uploads

  pub end_fits : (size : C → ℕ) (M : State C) (t : ℕ) (key : Option Key) (body : Body C) (u : UploadCall) → IsSound M → Fits M (end_plan size M t key body u)
  end_fits size M t key body (upload.File u) sound = there M NoBucket (file_end size M t key body u) (bucket_at M u.bucket) (λ b is none. (next_may M sound u.bucket (ap is_some is), upload_mark u.digest, refl))
  end_fits size M t key body (upload.Part u) sound = there M NoFile (part_end size t body u) (version_at M u.bucket u.file) (λ v is none.
      (it_stands M u.bucket u.file v (λ w. is_start w.action) is (not_not (is_start v.action) none.0), tt, refl))
  end_fits size M t key body (upload.Bad c) sound = λ none. tt
