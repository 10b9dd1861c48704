-- The token that an accepted call gives is the next of its opening, and names what was given.
use Rattle.std.proofs.Common.{◌≡◌, ℕ, ◌+◌, ◌<◌, ◌==◌, ◌-◌, ◌^◌, Bool, true, false, ◌&&◌, ◌++◌, List, [], ◌∷◌, All, Option, Some, None, find, option_and_then, unwrap_or, bytes_eq, if◌then◌else◌, refl, sym, subst, arith}
use Rattle.std.specs.Prelude.{⊤}
use Rattle.std.specs.Option.{is_some}
use Rattle.std.specs.List.{AllPairs}
use Rattle.std.proofs.lemmas.Bool.{false≢true}
use Rattle.std.proofs.lemmas.Option.{none-some}
use Rattle.std.proofs.lemmas.Bool.Decides.{nat_tests}
use Rattle.std.proofs.lemmas.List.Elements.{All-nil, All-head, All-tail, All-push}
use Rattle.std.proofs.lemmas.List.Kept.{AllPairs-cons}
use Rattle.rule_table.specs.declared.fault.FaultKind.{FaultKind}
use Rattle.rule_table.specs.declared.fault.FaultKind.TheVariants.{NoBucket, NoFile, NoKey}
use Rattle.b2_types.specs.declared.bucket.Bucket.{Bucket}
use Rattle.b2_types.specs.declared.key.Key.{Key}
use Rattle.b2_types.specs.declared.key.Grant.{Grant}
use Rattle.b2_types.specs.declared.key.Flight.{Flight}
use Rattle.b2_types.specs.KeyId.{key_id}
use Rattle.sha2.specs.Sha256.{sha256}
use Rattle.b2_types.specs.declared.upload.UploadCall.{UploadCall}
use Rattle.b2_types.specs.declared.upload.UploadCall.TheVariants as upload
use Rattle.b2_model.specs.Body.{Body}
use Rattle.b2_types.specs.declared.call.Call.{Call}
use Rattle.b2_types.specs.declared.call.Call.TheVariants as call
use Rattle.b2_types.specs.declared.call.Credentials.{Credentials}
use Rattle.b2_types.specs.declared.call.CopyFile.{CopyFile}
use Rattle.b2_types.specs.declared.call.CopyPart.{CopyPart}
use Rattle.b2_types.specs.declared.record.Numbers.{Numbers}
use Rattle.b2_types.specs.declared.record.ChangeOf.{ChangeOf}
use Rattle.b2_types.specs.declared.version.VersionOf.{VersionOf}
use Rattle.b2_model.specs.State.{State, Pieces, bucket_at, key_at}
use Rattle.b2_model.specs.Rows.{version_at}
use Rattle.b2_model.specs.Current.{current as newest}
use Rattle.b2_model.specs.LiveGrant.{token_text, grant_at}
use Rattle.b2_model.specs.Plan.{Plan, or_absent, key_num}
use Rattle.b2_model.specs.Policy.{caller_of, key_by, bucket_named}
use Rattle.b2_model.specs.Stored.{numbers_of}
use Rattle.b2_model.specs.AskKeys.{authorize_plan, drop_key, key_of_id}
use Rattle.b2_model.specs.AskDownloads.{content, or_refused}
use Rattle.b2_model.specs.AskCopies.{file_copy_on, part_copy_on}
use Rattle.b2_model.specs.Ask.{plan, shown_by, is_open, at_moment, with_change, with_grant}
use Rattle.b2_model.specs.UploadSteps.{end_plan, file_end, part_end}
use Rattle.sound_states.specs.Sound.{IsGiven, IsAmong, IsBefore, Names, IsToken, AreTokens, IsUnderWay, AreFlights, IsSound}
use Rattle.sound_states.proofs.Ascending.{pairs_head, pairs_tail, all_from}
use Rattle.sound_states.proofs.Tests.{equal_numbers}
use Rattle.sound_states.proofs.Found.{found_has, some_found}
use Rattle.sound_states.proofs.Tokens.{token_later}
use Rattle.sound_steps.proofs.Plans.{Pass}
use Rattle.sound_steps.proofs.TokenOrder.{lower_text}

-- ---- a list with one more

module _ {X : Type 0} (R : X → X → Type 0) where
  pub pairs_push : (xs : List X) (y : X) → AllPairs R xs → All (λ x. R x y) xs → AllPairs R (xs ++ y ∷ [])
  pairs_push [] y pairs before = AllPairs-cons R y [] (All-nil _) pairs
  pairs_push (x ∷ xs) y pairs before =
      AllPairs-cons R x (xs ++ y ∷ []) (All-push (R x) xs y (pairs_head R x xs pairs) (All-head (λ x. R x y) x xs before))
      (pairs_push xs y (pairs_tail R x xs pairs) (All-tail (λ x. R x y) x xs before))

pub found_before : {X : Type 0} (p : X → Bool) (xs ys : List X) (x : X) → find p xs ≡ Some x → find p (xs ++ ys) ≡ Some x
found_before p [] ys x is = absurd (none-some _ is)
found_before p (z ∷ xs) ys x is = by (p z) is (found_before p xs ys x)
  where
    by : (b : Bool) → (if b then Some z else find p xs) ≡ Some x → (find p xs ≡ Some x → find p (xs ++ ys) ≡ Some x) → (if b then Some z else find p (xs ++ ys)) ≡ Some x
    by true is rest = is
    by false is rest = rest is

-- ---- a new token

-- the next token of the opening, for what was given
pub record IsNew (numbers : Numbers) (count : ℕ) (g : Grant) : Type 0 where
  pub first : ℕ
  pub second : ℕ
  pub text : g.text ≡ token_text numbers.boot (count + 1) first second
  pub left : (count == 2 ^ 64 - 1) ≡ false
  pub key : g.key < numbers.next_key
  pub names : Names numbers g.kind g

-- its text stands after that of each that was given
new_after : (numbers : Numbers) (count : ℕ) (g h : Grant) → count + 1 < 2 ^ 64 → IsNew numbers count h → IsToken numbers count g → IsBefore g.text h.text
new_after numbers count g h small new is =
    let given = is.given in
    let before = lower_text numbers.boot is.serial (count + 1) is.first is.second new.first new.second (omega (arith, given.1)) small in
    rw (is.text, new.text) before

pub with_new : (numbers : Numbers) (count : ℕ) (grants : List Grant) (g : Grant) → AreTokens numbers count grants → IsNew numbers count g → AreTokens numbers (count + 1) (grants ++ g ∷ [])
with_new numbers count grants g sound new =
    let last = sound.last in
    let left = new.left in
    let small : count + 1 < 2 ^ 64 = grind (arith, nat_tests, last, left) in
    record {
      order = pairs_push (λ g h. IsBefore g.text h.text) grants g sound.order (all_from (IsToken numbers count) (λ h. IsBefore h.text g.text) grants (λ h is. new_after numbers count h g small new is) sound.given);
      given = All-push (IsToken numbers (count + 1)) grants g
          (all_from (IsToken numbers count) (IsToken numbers (count + 1)) grants
          (λ h is. token_later numbers numbers count (count + 1) h (record { boot = refl; buckets = omega arith; keys = omega arith; versions = omega arith }) (omega arith) is) sound.given)
          (record { serial = count + 1; first = new.first; second = new.second; text = new.text; given = (omega arith, omega arith); key = new.key; names = new.names });
      last = small;
    }

-- uploads stay on their tokens
pub more_grants : (grants : List Grant) (g : Grant) (flights : List Flight) → AreFlights grants flights → AreFlights (grants ++ g ∷ []) flights
more_grants grants g flights sound = record {
  order = sound.order;
  apart = sound.apart;
  under_way = all_from (IsUnderWay grants) (IsUnderWay (grants ++ g ∷ [])) flights (λ f is. record { token = is.token; there = found_before _ grants (g ∷ []) is.token is.there; purpose = is.purpose }) sound.under_way;
}

module _ {C : Type 0} where
  -- ---- who asks

  key_given : (M : State C) (n : ℕ) (k : Key) → IsSound M → key_at M n ≡ Some k → k.num < M.next_key
  key_given M n k sound is = (found_has (λ k. k.num == n) (λ k. k.num < M.next_key) M.keys k sound.keys.given is).1

  any_key : (M : State C) (o : Option Key) → IsSound M → ((k : Key) → o ≡ Some k → k.num < M.next_key) → key_num o < M.next_key
  any_key M None sound each = sound.keys.first
  any_key M (Some k) sound each = each k refl

  callers_key : (M : State C) (o : Option Grant) (k : Key) → IsSound M → option_and_then (λ g. key_at M g.key) o ≡ Some k → k.num < M.next_key
  callers_key M None k sound is = absurd (none-some _ is)
  callers_key M (Some g) k sound is = key_given M g.key k sound is

  pub asks_given : (M : State C) (token : Option (List ℕ)) (c : Call) → IsSound M → key_num (shown_by M token c) < M.next_key
  asks_given M token c sound = by (is_open M c)
    where
      by : (b : Bool) → key_num (if b then None else (caller_of M token).key) < M.next_key
      by true = sound.keys.first
      by false = any_key M (caller_of M token).key sound (λ k is. callers_key M (option_and_then (grant_at M) token) k sound is)

  -- ---- what a call names

  bucket_given : (M : State C) (n : ℕ) (b : Bucket) → IsSound M → bucket_at M n ≡ Some b → IsGiven M.next_bucket b.num
  bucket_given M n b sound is = (found_has (λ b. b.num == n) (λ b. IsGiven M.next_bucket b.num) M.buckets b sound.buckets.given is).1

  number_given : (M : State C) (n : ℕ) (b : Bucket) → IsSound M → bucket_at M n ≡ Some b → IsGiven M.next_bucket n
  number_given M n b sound is =
      let found = found_has (λ b. b.num == n) (λ b. IsGiven M.next_bucket b.num) M.buckets b sound.buckets.given is in
      subst (IsGiven M.next_bucket) (equal_numbers b.num n found.0) found.1

  file_given : (M : State C) (bucket num : ℕ) (v : VersionOf C) → IsSound M → version_at M bucket num ≡ Some v → IsGiven M.next_version v.num
  file_given M bucket num v sound is = (found_has (λ v. v.bucket == bucket && v.num == num) (λ v. IsGiven M.next_version v.num) M.versions v sound.versions.given is).1

  -- that of a version was, as it stands
  placed_given : (M : State C) (bucket num : ℕ) (v : VersionOf C) → IsSound M → version_at M bucket num ≡ Some v → IsGiven M.next_bucket v.bucket
  placed_given M bucket num v sound is =
      let among = (found_has (λ v. v.bucket == bucket && v.num == num) (λ v. IsAmong M.buckets v.bucket) M.versions v sound.versions.placed is).1 in
      by (bucket_at M v.bucket) refl (some_found (λ b. b.num == v.bucket) M.buckets among)
    where
      by : (o : Option Bucket) → bucket_at M v.bucket ≡ o → is_some o ≡ true → IsGiven M.next_bucket v.bucket
      by None at there = absurd (false≢true there)
      by (Some b) at there = number_given M v.bucket b sound at

  -- ---- plans

  -- a call that gives a token gives a new one, and writes no record
  abbrev pub Gives : State C → Option Grant → Option (ChangeOf C) → Type 0
  Gives M None ch = ⊤
  Gives M (Some g) ch = IsNew (numbers_of M) M.serial g × (ch ≡ None)

  abbrev GivesNew : State C → Plan C → Type 0
  GivesNew M p = Pass p.own → Gives M p.grant p.change

  there : {X : Type 0} (M : State C) (kind : FaultKind) (p : X → Plan C) (o : Option X) → ((x : X) → o ≡ Some x → GivesNew M (p x)) → GivesNew M (or_absent kind p o)
  there M kind p None each = λ pass. tt
  there M kind p (Some x) each = each x refl

  current : (M : State C) (p : VersionOf C → Plan C) (o : Option (VersionOf C)) → ((v : VersionOf C) → GivesNew M (p v)) → GivesNew M (or_refused NoFile p o)
  current M p None each = λ pass. tt
  current M p (Some v) each = each v

  file_copied : (P : Pieces C) (M : State C) (key : Option Key) (t : ℕ) (c : CopyFile) (b : Option Bucket) (v : Option (VersionOf C)) → GivesNew M (file_copy_on P M key t c b v)
  file_copied P M key t c None v pass = tt
  file_copied P M key t c (Some b) None pass = tt
  file_copied P M key t c (Some b) (Some v) pass = tt

  part_copied : (P : Pieces C) (M : State C) (t : ℕ) (c : CopyPart) (v large : Option (VersionOf C)) → GivesNew M (part_copy_on P t c v large)
  part_copied P M t c None large pass = tt
  part_copied P M t c (Some v) None pass = tt
  part_copied P M t c (Some v) (Some large) pass = tt

  by_credentials : (M : State C) (o : Option Credentials) (k : Key) → IsSound M → option_and_then (key_by M) o ≡ Some k → k.num < M.next_key
  by_credentials M None k sound is = absurd (none-some k is)
  by_credentials M (Some c) k sound is = (found_has (λ k. bytes_eq (key_id M.settings.account k.num) c.id && bytes_eq (sha256 c.secret) k.hash) (λ k. k.num < M.next_key) M.keys k sound.keys.given is).1

  pub plan_new : (P : Pieces C) (M : State C) (t : ℕ) (words : List ℕ) (key : Option Key) (c : Call) → IsSound M → key_num key < M.next_key → GivesNew M (plan P M t words key c)
  plan_new P M t words key (call.AuthorizeAccount c) sound known =
      there M _ (authorize_plan c.version M t words) (option_and_then (key_by M) c.credentials) (λ k is pass.
      (record { first = _; second = _; text = refl; left = pass.1.0; key = by_credentials M c.credentials k sound is; names = (refl, refl, refl) }, refl))
  plan_new P M t words key (call.CreateBucket c) sound known = λ pass. tt
  plan_new P M t words key (call.UpdateBucket c) sound known = there M NoBucket _ (bucket_at M c.bucket) (λ b is pass. tt)
  plan_new P M t words key (call.DeleteBucket c) sound known = there M NoBucket _ (bucket_at M c.bucket) (λ b is pass. tt)
  plan_new P M t words key (call.ListBuckets c) sound known = λ pass. tt
  plan_new P M t words key (call.CreateKey c) sound known = λ pass. tt
  plan_new P M t words key (call.DeleteKey c) sound known = there M NoKey (drop_key c.version M) (key_of_id M c.key) (λ k is pass. tt)
  plan_new P M t words key (call.ListKeys c) sound known = λ pass. tt
  plan_new P M t words key (call.GetUploadUrl c) sound known = there M NoBucket _ (bucket_at M c.bucket) (λ b is pass.
      (record { first = _; second = _; text = refl; left = pass.0; key = known; names = (bucket_given M c.bucket b sound is, refl, refl) }, refl))
  plan_new P M t words key (call.StartLargeFile c) sound known = there M NoBucket _ (bucket_at M c.bucket) (λ b is pass. tt)
  plan_new P M t words key (call.GetUploadPartUrl c) sound known = there M NoFile _ (version_at M c.bucket c.file) (λ v is pass.
      (record { first = _; second = _; text = refl; left = pass.1.0; key = known; names = (placed_given M c.bucket c.file v sound is, file_given M c.bucket c.file v sound is, refl) }, refl))
  plan_new P M t words key (call.ListParts c) sound known = there M NoFile _ (version_at M c.bucket c.file) (λ v is pass. tt)
  plan_new P M t words key (call.FinishLargeFile c) sound known = there M NoFile _ (version_at M c.bucket c.file) (λ v is pass. tt)
  plan_new P M t words key (call.CancelLargeFile c) sound known = there M NoFile _ (version_at M c.bucket c.file) (λ v is pass. tt)
  plan_new P M t words key (call.ListUnfinishedLargeFiles c) sound known = there M NoBucket _ (bucket_at M c.bucket) (λ b is pass. tt)
  plan_new P M t words key (call.ListFileNames c) sound known = there M NoBucket _ (bucket_at M c.bucket) (λ b is pass. tt)
  plan_new P M t words key (call.ListFileVersions c) sound known = there M NoBucket _ (bucket_at M c.bucket) (λ b is pass. tt)
  plan_new P M t words key (call.GetFileInfo c) sound known = there M NoFile _ (version_at M c.bucket c.file) (λ v is pass. tt)
  plan_new P M t words key (call.HideFile c) sound known = there M NoBucket _ (bucket_at M c.bucket) (λ b is pass. tt)
  plan_new P M t words key (call.DeleteFileVersion c) sound known = there M NoFile _ (version_at M c.bucket c.file) (λ v is pass. tt)
  plan_new P M t words key (call.GetDownloadAuthorization c) sound known = there M NoBucket _ (bucket_at M c.bucket) (λ b is pass.
      (record { first = _; second = _; text = refl; left = pass.0; key = known; names = (number_given M c.bucket b sound is, refl) }, refl))
  plan_new P M t words key (call.DownloadFileById c) sound known = there M NoFile (content P.size M key c.range) (version_at M c.bucket c.file) (λ v is pass. tt)
  plan_new P M t words key (call.DownloadFileByName c) sound known = there M NoFile _ (bucket_named M c.bucket) (λ b is. current M (content P.size M key c.range) (newest M b.num c.name) (λ v pass. tt))
  plan_new P M t words key (call.UpdateFileRetention c) sound known = there M NoFile _ (version_at M c.bucket c.file) (λ v is pass. tt)
  plan_new P M t words key (call.UpdateFileLegalHold c) sound known = there M NoFile _ (version_at M c.bucket c.file) (λ v is pass. tt)
  plan_new P M t words key (call.CopyFile c) sound known = file_copied P M key t c (bucket_at M (unwrap_or c.bucket c.source.bucket)) (version_at M c.source.bucket c.source.num)
  plan_new P M t words key (call.CopyPart c) sound known = part_copied P M t c (version_at M c.source.bucket c.source.num) (version_at M c.bucket c.file)
  plan_new P M t words key (call.Bad c) sound known = λ pass. tt

  -- ---- the end of an upload gives none

  none_there : {X : Type 0} (M : State C) (kind : FaultKind) (p : X → Plan C) (o : Option X) → ((x : X) → (p x).grant ≡ None) → Gives M (or_absent kind p o).grant (or_absent kind p o).change
  none_there M kind p None each = tt
  none_there M kind p (Some x) each = subst (λ g. Gives M g (p x).change) (sym (each x)) tt

  pub end_new : (size : C → ℕ) (M : State C) (t : ℕ) (key : Option Key) (body : Body C) (u : UploadCall) → Gives M (end_plan size M t key body u).grant (end_plan size M t key body u).change
  end_new size M t key body (upload.File u) = none_there M NoBucket (file_end size M t key body u) (bucket_at M u.bucket) (λ b. refl)
  end_new size M t key body (upload.Part u) = none_there M NoFile (part_end size t body u) (version_at M u.bucket u.file) (λ v. refl)
  end_new size M t key body (upload.Bad c) = tt

  -- ---- a token is given

  given_sound : (M : State C) (g : Grant) → IsSound M → IsNew (numbers_of M) M.serial g → IsSound (with_grant (Some g) M)
  given_sound M g sound new = record {
    buckets = sound.buckets;
    versions = sound.versions;
    keys = sound.keys;
    tokens = with_new (numbers_of M) M.serial M.grants g sound.tokens new;
    flights = more_grants M.grants g M.flights sound.flights;
    moments = sound.moments;
  }

  pub granted : (M : State C) (t : ℕ) (o : Option Grant) (ch : Option (ChangeOf C)) → IsSound (with_change (at_moment M t) t ch) → Gives M o ch → IsSound (with_grant o (with_change (at_moment M t) t ch))
  granted M t None ch sound gives = sound
  granted M t (Some g) ch sound gives =
      let unchanged = gives.1 in
      subst (λ ch. IsSound (with_grant (Some g) (with_change (at_moment M t) t ch))) (sym unchanged)
      (given_sound (at_moment M t) g (subst (λ ch. IsSound (with_change (at_moment M t) t ch)) unchanged sound) gives.0)
