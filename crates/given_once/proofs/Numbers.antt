-- Numbers are given once.
use Rattle.std.proofs.Common.{inl, inr, ◌≡◌, ℕ, ◌+◌, ◌≤◌, ◌==◌, ◌/◌, nat_lt, nat_le, max, Bool, true, false, not, ◌&&◌, ◌||◌, List, [], ◌∷◌, ◌++◌, All, Option, Some, None, map, filter, fold, option_and_then, unwrap_or, if◌then◌else◌, refl, sym, subst, arith}
use Rattle.std.specs.Prelude.{⊤, ◌⊎◌}
use Rattle.std.specs.Option.{is_some}
use Rattle.std.specs.List.{list_any}
use Rattle.std.proofs.lemmas.Bool.{false≢true}
use Rattle.std.proofs.lemmas.Bool.Decides.{nat_tests}
use Rattle.std.proofs.lemmas.List.Elements.{All-nil, All-cons, All-head, All-tail, All-map, All-filter}
use Rattle.rule_table.specs.declared.fault.FaultKind.{FaultKind}
use Rattle.rule_table.specs.declared.fault.FaultKind.TheVariants.{NoBucket, NoFile, NoKey}
use Rattle.b2_types.specs.declared.bucket.Bucket.{Bucket}
use Rattle.b2_types.specs.declared.bucket.Rule.{Rule}
use Rattle.b2_types.specs.declared.key.Key.{Key}
use Rattle.b2_types.specs.declared.key.Grant.{Grant}
use Rattle.b2_types.specs.declared.key.Flight.{Flight}
use Rattle.b2_types.specs.declared.fault.Fault.{Fault}
use Rattle.b2_types.specs.declared.call.Call.{Call}
use Rattle.b2_types.specs.declared.call.Call.TheVariants as call
use Rattle.b2_types.specs.declared.call.CopyFile.{CopyFile}
use Rattle.b2_types.specs.declared.call.CopyPart.{CopyPart}
use Rattle.b2_types.specs.declared.upload.UploadCall.{UploadCall}
use Rattle.b2_types.specs.declared.upload.UploadCall.TheVariants as upload
use Rattle.b2_types.specs.declared.version.VersionOf.{VersionOf}
use Rattle.b2_types.specs.declared.record.VersionId.{VersionId}
use Rattle.b2_types.specs.declared.record.ChangeOf.{ChangeOf}
use Rattle.b2_types.specs.declared.record.ChangeOf.TheVariants as change
use Rattle.b2_model.specs.Kinds.{day}
use Rattle.b2_model.specs.Body.{Body}
use Rattle.b2_model.specs.Checks.{first_fault}
use Rattle.b2_model.specs.State.{State, Pieces, bucket_at}
use Rattle.b2_model.specs.Lists.{put_by}
use Rattle.b2_model.specs.Rows.{version_at, rows}
use Rattle.b2_model.specs.Current.{current as newest}
use Rattle.b2_model.specs.Version.{marker, with_version, is_it}
use Rattle.b2_model.specs.Plan.{Plan, or_absent}
use Rattle.b2_model.specs.Policy.{caller_of, key_by, bucket_named}
use Rattle.b2_model.specs.Changes.{after_record}
use Rattle.b2_model.specs.Pass.{rule_for, is_due, drops, is_same, without_versions, names_in, with_due_hide, of_name, cancels, pass_on, pass_names}
use Rattle.b2_model.specs.AskKeys.{authorize_plan, drop_key, key_of_id}
use Rattle.b2_model.specs.AskDownloads.{content, or_refused}
use Rattle.b2_model.specs.AskCopies.{file_copy_on, part_copy_on}
use Rattle.b2_model.specs.Ask.{plan, plan_of, shown_by, refusals_of, at_moment, with_change, with_grant, outcome_or_refusal}
use Rattle.b2_model.specs.UploadSteps.{begin_as, begin_refusals, end, end_plan, file_end, part_end, upload_rules, without_flight, flight_of}
use Rattle.b2_model.specs.Run.{Step, asks, begins, ends, loses, passes, restarts, Progress, moment, with_pass, start_of, with_state, with_end, begin_step, answer_to, state_after, step}
use Rattle.machine_laws.proofs.Moments.{answer_state}
use Rattle.machine_laws.proofs.PassKeeps.{pass_each}
use Rattle.sound_states.proofs.Ascending.{put_all, all_from}
use Rattle.sound_states.proofs.Buckets.{in_place, same_num}
use Rattle.given_once.specs.Numbers.{GivesOnce, NeverAgain}

-- ---- a list and its next number

module _ {X : Type 0} (num : X → ℕ) where
  abbrev Old : ℕ → List X → ℕ → Type 0
  Old next before n = (list_any (λ y. num y == n) before ≡ true) ⊎ (next ≤ n)

  -- each item has its own number
  own_numbers : (next : ℕ) (xs : List X) → All (λ x. Old next xs (num x)) xs
  own_numbers next [] = All-nil _
  own_numbers next (x ∷ xs) =
      All-cons (λ y. Old next (x ∷ xs) (num y)) x xs (inl (here (num x) (list_any (λ y. num y == num x) xs)))
      (all_from (λ y. Old next xs (num y)) (λ y. Old next (x ∷ xs) (num y)) xs (λ y old. later y old) (own_numbers next xs))
    where
      here : (n : ℕ) (rest : Bool) → ((n == n) || rest) ≡ true
      here n rest = let same : (n == n) ≡ true = grind (arith, nat_tests) in rw same refl

      or_later : (a b : Bool) → b ≡ true → (a || b) ≡ true
      or_later true b is = refl
      or_later false b is = is

      later : (y : X) → Old next xs (num y) → Old next (x ∷ xs) (num y)
      later y (inl found) = inl (or_later (num x == num y) (list_any (λ z. num z == num y) xs) found)
      later y (inr above) = inr above

  pub same_list : (next later : ℕ) (xs : List X) → next ≤ later → GivesOnce num next xs later xs
  same_list next later xs rises = record { old_or_new = own_numbers next xs; rises = rises }

  pub put_next : (next later : ℕ) (x : X) (xs : List X) → num x ≡ next → next ≤ later → GivesOnce num next xs later (put_by num x xs)
  put_next next later x xs is rises = record { old_or_new = put_all num (λ y. Old next xs (num y)) x xs (inr (omega (arith, is))) (own_numbers next xs); rises = rises }

  pub fewer : (next : ℕ) (p : X → Bool) (xs : List X) → GivesOnce num next xs next (filter p xs)
  fewer next p xs = record { old_or_new = All-filter p (λ x. Old next xs (num x)) xs (own_numbers next xs); rises = omega arith }

  pub changed : (next : ℕ) (f : X → X) (xs : List X) → ((x : X) → num (f x) ≡ num x) → GivesOnce num next xs next (map f xs)
  changed next f xs same = record {
    old_or_new = All-map (λ x. Old next xs (num x)) f xs (all_from (λ x. Old next xs (num x)) (λ x. Old next xs (num (f x))) xs (λ x old. subst (Old next xs) (sym (same x)) old) (own_numbers next xs));
    rises = omega arith;
  }

  -- what is so of each number of a list is so of one that it has
  has_number : (P : ℕ → Type 0) (n : ℕ) (xs : List X) → All (λ x. P (num x)) xs → list_any (λ x. num x == n) xs ≡ true → P n
  has_number P n [] each found = absurd (false≢true found)
  has_number P n (x ∷ xs) each found = at (num x == n) refl found (has_number P n xs (All-tail (λ x. P (num x)) x xs each))
    where
      at : (b : Bool) → (num x == n) ≡ b → (b || list_any (λ x. num x == n) xs) ≡ true → (list_any (λ x. num x == n) xs ≡ true → P n) → P n
      at true is found rest = let same : num x ≡ n = grind (arith, nat_tests, is) in subst P same (All-head (λ x. P (num x)) x xs each)
      at false is found rest = rest found

  pub once_more : (one two three : ℕ) (xs ys zs : List X) → GivesOnce num one xs two ys → GivesOnce num two ys three zs → GivesOnce num one xs three zs
  once_more one two three xs ys zs first second =
      let low = first.rises in
      let high = second.rises in
      record {
        old_or_new = all_from (λ z. Old two ys (num z)) (λ z. Old one xs (num z)) zs (λ z old. back z old) second.old_or_new;
        rises = omega (arith, low, high);
      }
    where
      back : (z : X) → Old two ys (num z) → Old one xs (num z)
      back z (inl found) = has_number (Old one xs) (num z) ys first.old_or_new found
      back z (inr above) = let low = first.rises in inr (omega (arith, above, low))

module _ {C : Type 0} where
  -- ---- states

  pub same_state : (M : State C) → NeverAgain M M
  same_state M = record {
    buckets = same_list (λ b. b.num) M.next_bucket M.next_bucket M.buckets (omega arith);
    versions = same_list (λ v. v.num) M.next_version M.next_version M.versions (omega arith);
    keys = same_list (λ k. k.num) M.next_key M.next_key M.keys (omega arith);
  }

  pub then_again : (M N O : State C) → NeverAgain M N → NeverAgain N O → NeverAgain M O
  then_again M N O first second = record {
    buckets = once_more (λ b. b.num) M.next_bucket N.next_bucket O.next_bucket M.buckets N.buckets O.buckets first.buckets second.buckets;
    versions = once_more (λ v. v.num) M.next_version N.next_version O.next_version M.versions N.versions O.versions first.versions second.versions;
    keys = once_more (λ k. k.num) M.next_key N.next_key O.next_key M.keys N.keys O.keys first.keys second.keys;
  }

  -- the versions alone are others
  other_versions : (M : State C) (next : ℕ) (versions : List (VersionOf C)) → GivesOnce (λ v. v.num) M.next_version M.versions next versions → NeverAgain M (record M { versions = versions; next_version = next })
  other_versions M next versions once = record { buckets = (same_state M).buckets; versions = once; keys = (same_state M).keys }

  new_version : (M : State C) (v : VersionOf C) → v.num ≡ M.next_version → NeverAgain M (with_version v M)
  new_version M v is = other_versions M (max M.next_version (v.num + 1)) (put_by (λ w. w.num) v M.versions) (put_next (λ w. w.num) M.next_version (max M.next_version (v.num + 1)) v M.versions is (omega arith))

  place_num : (f : VersionOf C → VersionOf C) → ((v : VersionOf C) → (f v).num ≡ v.num) → (v : VersionOf C) (b : Bool) → (if b then f v else v).num ≡ v.num
  place_num f same v true = same v
  place_num f same v false = refl

  one_changed : (M : State C) (id : VersionId) (f : VersionOf C → VersionOf C) → ((v : VersionOf C) → (f v).num ≡ v.num) → NeverAgain M (record M { versions = map (λ v. if is_it id v then f v else v) M.versions })
  one_changed M id f same =
      other_versions M M.next_version (map (λ v. if is_it id v then f v else v) M.versions)
      (changed (λ v. v.num) M.next_version (λ v. if is_it id v then f v else v) M.versions (λ v. place_num f same v (is_it id v)))

  some_gone : (M : State C) (p : VersionOf C → Bool) → NeverAgain M (record M { versions = filter p M.versions })
  some_gone M p = other_versions M M.next_version (filter p M.versions) (fewer (λ v. v.num) M.next_version p M.versions)

  -- ---- the pass

  if_again : (b : Bool) (M N : State C) → NeverAgain M N → NeverAgain M (if b then N else M)
  if_again true M N again = again
  if_again false M N again = same_state M

  on_name_again : (t bucket : ℕ) (name : List ℕ) (rule : Option Rule) (M : State C) → NeverAgain M (pass_on t bucket name rule M)
  on_name_again t bucket name None M = same_state M
  on_name_again t bucket name (Some rule) M =
      let due = is_due t rule (of_name M bucket name) in
      let N = with_due_hide t bucket name due M in
      let gone = cancels M t bucket rule name ++ drops t rule (of_name N bucket name) in
      then_again M N (record N { versions = without_versions gone N.versions })
      (if_again (due && nat_le M.next_version M.settings.last_version) M (with_version (marker bucket M.next_version name t) M) (new_version M (marker bucket M.next_version name t) refl))
      (some_gone N (λ v. not (list_any (is_same v) gone)))

  on_names_again : (t : ℕ) (bucket : Bucket) (names : List (List ℕ)) (M : State C) → NeverAgain M (pass_names t bucket names M)
  on_names_again t bucket [] M = same_state M
  on_names_again t bucket (name ∷ names) M =
      let N = pass_on t bucket.num name (rule_for bucket name) M in
      then_again M N (pass_names t bucket names N) (on_name_again t bucket.num name (rule_for bucket name) M) (on_names_again t bucket names N)

  each_again : (t : ℕ) (buckets : List Bucket) (M : State C) → NeverAgain M (pass_each t buckets M)
  each_again t [] M = same_state M
  each_again t (bucket ∷ buckets) M =
      let N = pass_names t bucket (names_in (rows M bucket.num)) M in
      then_again M N (pass_each t buckets N) (on_names_again t bucket (names_in (rows M bucket.num)) M) (each_again t buckets N)

  pub with_pass_again : (M : State C) (t : ℕ) → NeverAgain M (with_pass M t)
  with_pass_again M t = let again = each_again t M.buckets M in record { buckets = again.buckets; versions = again.versions; keys = again.keys }

  -- ---- records of calls

  -- what is new has the next number; a call writes no opening, and no record of a snapshot
  abbrev pub GivesNext : State C → Option (ChangeOf C) → Type 0
  GivesNext M None = ⊤
  GivesNext M (Some (change.BucketMake b)) = b.num ≡ M.next_bucket
  GivesNext M (Some (change.Upload v content m digest)) = v.num ≡ M.next_version
  GivesNext M (Some (change.Hide id name)) = id.num ≡ M.next_version
  GivesNext M (Some (change.Start v)) = v.num ≡ M.next_version
  GivesNext M (Some (change.KeyMake k)) = k.num ≡ M.next_key
  GivesNext M (Some (change.Boot n)) = ⊥
  GivesNext M (Some (change.SnapState n)) = ⊥
  GivesNext M (Some (change.SnapLarge v)) = ⊥
  GivesNext M (Some other) = ⊤

  other_buckets : (M : State C) (t next : ℕ) (buckets : List Bucket) → GivesOnce (λ b. b.num) M.next_bucket M.buckets next buckets → NeverAgain M (record M { now = t; kept = t; buckets = buckets; next_bucket = next })
  other_buckets M t next buckets once = record { buckets = once; versions = (same_state M).versions; keys = (same_state M).keys }

  other_keys : (M : State C) (t next : ℕ) (keys : List Key) → GivesOnce (λ k. k.num) M.next_key M.keys next keys → NeverAgain M (record M { now = t; kept = t; keys = keys; next_key = next })
  other_keys M t next keys once = record { buckets = (same_state M).buckets; versions = (same_state M).versions; keys = once }

  -- the moment is no number
  abbrev timed : ℕ → State C → State C
  timed t N = record N { now = t; kept = t }

  at_time : (M N : State C) (t : ℕ) → NeverAgain M N → NeverAgain M (timed t N)
  at_time M N t again = record { buckets = again.buckets; versions = again.versions; keys = again.keys }

  record_again : (M : State C) (t : ℕ) (ch : ChangeOf C) → GivesNext M (Some ch) → NeverAgain M (after_record M (record { at = t; change = ch }))
  record_again M t (change.Settings s) gives = at_time M M t (same_state M)
  record_again M t (change.Boot n) gives = absurd gives
  record_again M t change.Pass gives = with_pass_again M t
  record_again M t (change.BucketMake b) gives =
      other_buckets M t (max M.next_bucket (b.num + 1)) (put_by (λ a. a.num) b M.buckets) (put_next (λ a. a.num) M.next_bucket (max M.next_bucket (b.num + 1)) b M.buckets gives (omega arith))
  record_again M t (change.BucketUpdate b) gives = other_buckets M t M.next_bucket (map (in_place b) M.buckets) (changed (λ a. a.num) M.next_bucket (in_place b) M.buckets (same_num b))
  record_again M t (change.BucketDrop n) gives = other_buckets M t M.next_bucket (filter (λ a. not (a.num == n)) M.buckets) (fewer (λ a. a.num) M.next_bucket (λ a. not (a.num == n)) M.buckets)
  record_again M t (change.Upload v content m digest) gives = at_time M _ t (new_version M _ gives)
  record_again M t (change.Hide id name) gives = at_time M _ t (new_version M _ gives)
  record_again M t (change.Start v) gives = at_time M _ t (new_version M _ gives)
  record_again M t (change.PartPut id n content m digest) gives = at_time M _ t (one_changed M id _ (λ v. refl))
  record_again M t (change.Finish id retention) gives = at_time M _ t (one_changed M id _ (λ v. refl))
  record_again M t (change.Cancel id) gives = at_time M _ t (some_gone M (λ v. not (is_it id v)))
  record_again M t (change.VersionDrop id) gives = at_time M _ t (some_gone M (λ v. not (is_it id v)))
  record_again M t (change.Retain id retention) gives = at_time M _ t (one_changed M id (λ v. record v { retention = retention }) (λ v. refl))
  record_again M t (change.Hold id hold) gives = at_time M _ t (one_changed M id (λ v. record v { hold = hold }) (λ v. refl))
  record_again M t (change.KeyMake k) gives =
      other_keys M t (max M.next_key (k.num + 1)) (put_by (λ a. a.num) k M.keys) (put_next (λ a. a.num) M.next_key (max M.next_key (k.num + 1)) k M.keys gives (omega arith))
  record_again M t (change.KeyDrop n) gives = other_keys M t M.next_key (filter (λ k. not (k.num == n)) M.keys) (fewer (λ k. k.num) M.next_key (λ k. not (k.num == n)) M.keys)
  record_again M t (change.SnapState n) gives = absurd gives
  record_again M t (change.SnapLarge v) gives = absurd gives
  record_again M t (change.SnapExtents id pieces) gives = at_time M _ t (one_changed M id (λ v. record v { content = v.content ++ pieces }) (λ v. refl))

  -- ---- calls

  there : {X : Type 0} (M : State C) (kind : FaultKind) (p : X → Plan C) (o : Option X) → ((x : X) → GivesNext M (p x).change) → GivesNext M (or_absent kind p o).change
  there M kind p None each = tt
  there M kind p (Some x) each = each x

  current : (M : State C) (p : VersionOf C → Plan C) (o : Option (VersionOf C)) → ((v : VersionOf C) → GivesNext M (p v).change) → GivesNext M (or_refused NoFile p o).change
  current M p None each = tt
  current M p (Some v) each = each v

  file_copied : (P : Pieces C) (M : State C) (key : Option Key) (t : ℕ) (c : CopyFile) (b : Option Bucket) (v : Option (VersionOf C)) → GivesNext M (file_copy_on P M key t c b v).change
  file_copied P M key t c None v = tt
  file_copied P M key t c (Some b) None = tt
  file_copied P M key t c (Some b) (Some v) = refl

  part_copied : (P : Pieces C) (M : State C) (t : ℕ) (c : CopyPart) (v large : Option (VersionOf C)) → GivesNext M (part_copy_on P t c v large).change
  part_copied P M t c None large = tt
  part_copied P M t c (Some v) None = tt
  part_copied P M t c (Some v) (Some large) = tt

  pub plan_gives : (P : Pieces C) (M : State C) (t : ℕ) (words : List ℕ) (key : Option Key) (c : Call) → GivesNext M (plan P M t words key c).change
  plan_gives P M t words key (call.AuthorizeAccount c) = there M _ (authorize_plan c.version M t words) (option_and_then (key_by M) c.credentials) (λ k. tt)
  plan_gives P M t words key (call.CreateBucket c) = refl
  plan_gives P M t words key (call.UpdateBucket c) = there M NoBucket _ (bucket_at M c.bucket) (λ b. tt)
  plan_gives P M t words key (call.DeleteBucket c) = there M NoBucket _ (bucket_at M c.bucket) (λ b. tt)
  plan_gives P M t words key (call.ListBuckets c) = tt
  plan_gives P M t words key (call.CreateKey c) = refl
  plan_gives P M t words key (call.DeleteKey c) = there M NoKey (drop_key c.version M) (key_of_id M c.key) (λ k. tt)
  plan_gives P M t words key (call.ListKeys c) = tt
  plan_gives P M t words key (call.GetUploadUrl c) = there M NoBucket _ (bucket_at M c.bucket) (λ b. tt)
  plan_gives P M t words key (call.StartLargeFile c) = there M NoBucket _ (bucket_at M c.bucket) (λ b. refl)
  plan_gives P M t words key (call.GetUploadPartUrl c) = there M NoFile _ (version_at M c.bucket c.file) (λ v. tt)
  plan_gives P M t words key (call.ListParts c) = there M NoFile _ (version_at M c.bucket c.file) (λ v. tt)
  plan_gives P M t words key (call.FinishLargeFile c) = there M NoFile _ (version_at M c.bucket c.file) (λ v. tt)
  plan_gives P M t words key (call.CancelLargeFile c) = there M NoFile _ (version_at M c.bucket c.file) (λ v. tt)
  plan_gives P M t words key (call.ListUnfinishedLargeFiles c) = there M NoBucket _ (bucket_at M c.bucket) (λ b. tt)
  plan_gives P M t words key (call.ListFileNames c) = there M NoBucket _ (bucket_at M c.bucket) (λ b. tt)
  plan_gives P M t words key (call.ListFileVersions c) = there M NoBucket _ (bucket_at M c.bucket) (λ b. tt)
  plan_gives P M t words key (call.GetFileInfo c) = there M NoFile _ (version_at M c.bucket c.file) (λ v. tt)
  plan_gives P M t words key (call.HideFile c) = there M NoBucket _ (bucket_at M c.bucket) (λ b. refl)
  plan_gives P M t words key (call.DeleteFileVersion c) = there M NoFile _ (version_at M c.bucket c.file) (λ v. tt)
  plan_gives P M t words key (call.GetDownloadAuthorization c) = there M NoBucket _ (bucket_at M c.bucket) (λ b. tt)
  plan_gives P M t words key (call.DownloadFileById c) = there M NoFile (content P.size M key c.range) (version_at M c.bucket c.file) (λ v. tt)
  plan_gives P M t words key (call.DownloadFileByName c) = there M NoFile _ (bucket_named M c.bucket) (λ b. current M (content P.size M key c.range) (newest M b.num c.name) (λ v. tt))
  plan_gives P M t words key (call.UpdateFileRetention c) = there M NoFile _ (version_at M c.bucket c.file) (λ v. tt)
  plan_gives P M t words key (call.UpdateFileLegalHold c) = there M NoFile _ (version_at M c.bucket c.file) (λ v. tt)
  plan_gives P M t words key (call.CopyFile c) = file_copied P M key t c (bucket_at M (unwrap_or c.bucket c.source.bucket)) (version_at M c.source.bucket c.source.num)
  plan_gives P M t words key (call.CopyPart c) = part_copied P M t c (version_at M c.source.bucket c.source.num) (version_at M c.bucket c.file)
  plan_gives P M t words key (call.Bad c) = tt

  pub end_gives : (size : C → ℕ) (M : State C) (t : ℕ) (key : Option Key) (body : Body C) (u : UploadCall) → GivesNext M (end_plan size M t key body u).change
  end_gives size M t key body (upload.File u) = there M NoBucket (file_end size M t key body u) (bucket_at M u.bucket) (λ b. refl)
  end_gives size M t key body (upload.Part u) = there M NoFile (part_end size t body u) (version_at M u.bucket u.file) (λ v. tt)
  end_gives size M t key body (upload.Bad c) = tt

  -- ---- outcomes

  granted : (M N : State C) (o : Option Grant) → NeverAgain M N → NeverAgain M (with_grant o N)
  granted M N None again = again
  granted M N (Some g) again = record { buckets = again.buckets; versions = again.versions; keys = again.keys }

  moved_gives : (M : State C) (t : ℕ) (ch : ChangeOf C) → GivesNext M (Some ch) → GivesNext (at_moment M t) (Some ch)
  moved_gives M t (change.Settings s) gives = gives
  moved_gives M t other gives = gives

  recorded : (M : State C) (t : ℕ) (o : Option (ChangeOf C)) → GivesNext M o → NeverAgain M (with_change (at_moment M t) t o)
  recorded M t None gives = record { buckets = (same_state M).buckets; versions = (same_state M).versions; keys = (same_state M).keys }
  recorded M t (Some ch) gives = let again = record_again (at_moment M t) t ch (moved_gives M t ch gives) in record { buckets = again.buckets; versions = again.versions; keys = again.keys }

  outcome_again : (M : State C) (t : ℕ) (words : List ℕ) (p : Plan C) (o : Option Fault) → GivesNext M p.change → NeverAgain M (outcome_or_refusal M t words p o).state
  outcome_again M t words p (Some fault) gives = record { buckets = (same_state M).buckets; versions = (same_state M).versions; keys = (same_state M).keys }
  outcome_again M t words p None gives = granted M (with_change (at_moment M t) t p.change) p.grant (recorded M t p.change gives)

  -- ---- steps

  started : (P : Progress C) (reading : ℕ) → NeverAgain P.state (start_of P reading)
  started P reading = let t = moment P.state reading in if_again (nat_lt P.state.pass_day (t / day)) P.state (with_pass P.state t) (with_pass_again P.state t)

  begun_again : (M : State C) (t conn : ℕ) (token : Option (List ℕ)) (u : UploadCall) (o : Option Fault) → NeverAgain M (begin_as M t conn token u o).state
  begun_again M t conn token u (Some fault) = record { buckets = (same_state M).buckets; versions = (same_state M).versions; keys = (same_state M).keys }
  begun_again M t conn token u None = record { buckets = (same_state M).buckets; versions = (same_state M).versions; keys = (same_state M).keys }

  landed : (M : State C) (t conn : ℕ) → NeverAgain M (without_flight M t conn)
  landed M t conn = record { buckets = (same_state M).buckets; versions = (same_state M).versions; keys = (same_state M).keys }

  ended_again : (size : C → ℕ) (M : State C) (t : ℕ) (f : Flight) (body : Body C) (words : List ℕ) → NeverAgain M (end size M t f body words).state
  ended_again size M t f body words =
      let N = without_flight M t f.conn in
      let who = caller_of N (Some f.token) in
      let p = end_plan size N t who.key body f.upload in
      then_again M N (end size M t f body words).state (landed M t f.conn)
      (outcome_again N t words p (first_fault (upload_rules N t who f.upload p.exists ++ p.own)) (end_gives size N t who.key body f.upload))

  either_again : (b : Bool) (M : State C) (P Q : Progress C) → NeverAgain M P.state → NeverAgain M Q.state → NeverAgain M (if b then P else Q).state
  either_again true M P Q first second = first
  either_again false M P Q first second = second

  with_end_again : (K : Pieces C) (P : Progress C) (reading : ℕ) (body : Body C) (o : Option Flight) → NeverAgain P.state (with_end K P reading body o).state
  with_end_again K P reading body None = same_state P.state
  with_end_again K P reading body (Some f) =
      then_again P.state (start_of P reading) (with_end K P reading body (Some f)).state (started P reading) (ended_again K.size (start_of P reading) (moment P.state reading) f body P.words)

  after_again : (K : Pieces C) (P : Progress C) (s : Step C) → NeverAgain P.state (state_after K P s).state
  after_again K P (asks reading token c) =
      let M = start_of P reading in
      let t = moment P.state reading in
      then_again P.state M (state_after K P (asks reading token c)).state (started P reading)
      (outcome_again M t P.words (plan_of K M t P.words token c) (first_fault (refusals_of K M t P.words token c)) (plan_gives K M t P.words (shown_by M token c) c))
  after_again K P (begins reading conn token u) =
      let M = start_of P reading in
      let t = moment P.state reading in
      either_again (is_some (flight_of P.state conn)) P.state P (with_state P (begin_step P reading conn token u).state) (same_state P.state)
      (then_again P.state M (begin_step P reading conn token u).state (started P reading) (begun_again M t conn token u (first_fault (begin_refusals M t token u))))
  after_again K P (ends reading conn body) = with_end_again K P reading body (flight_of P.state conn)
  after_again K P (loses reading conn) =
      let M = start_of P reading in
      let t = moment P.state reading in
      either_again (is_some (flight_of P.state conn)) P.state (with_state P (without_flight M t conn)) P
      (then_again P.state M (without_flight M t conn) (started P reading) (landed M t conn)) (same_state P.state)
  after_again K P (passes reading) = with_pass_again P.state (moment P.state reading)
  after_again K P (restarts reading) = record { buckets = (same_state P.state).buckets; versions = (same_state P.state).versions; keys = (same_state P.state).keys }

  pub step_again : (K : Pieces C) (P : Progress C) (s : Step C) → NeverAgain P.state (step K P s).state
  step_again K P s = subst (NeverAgain P.state) (sym (answer_state (answer_to K P s) (state_after K P s))) (after_again K P s)

  pub run_again : (K : Pieces C) (P : Progress C) (steps : List (Step C)) → NeverAgain P.state (fold (step K) P steps).state
  run_again K P [] = same_state P.state
  run_again K P (s ∷ steps) = then_again P.state (step K P s).state (fold (step K) (step K P s) steps).state (step_again K P s) (run_again K (step K P s) steps)
