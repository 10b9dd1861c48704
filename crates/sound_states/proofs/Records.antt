-- Each record that applies keeps a state sound.
use Rattle.std.proofs.Common.{◌≡◌, ℕ, ◌+◌, ◌<◌, ◌≤◌, ◌==◌, ◌/◌, nat_lt, nat_le, max, Bool, true, false, not, ◌&&◌, List, [], ◌∷◌, ◌++◌, Option, map, filter, length, if◌then◌else◌, refl, sym, ap, subst, ◌∙◌, arith}
use Rattle.std.specs.Option.{is_some, is_none}
use Rattle.std.specs.List.{list_any}
use Rattle.std.proofs.lemmas.Bool.{false≢true}
use Rattle.std.proofs.lemmas.List.Kept.{AllPairs-filter}
use Rattle.b2_types.specs.declared.kinds.Action.{Action}
use Rattle.b2_types.specs.declared.kinds.Action.TheVariants as action
use Rattle.b2_types.specs.declared.kinds.Mark.{Mark}
use Rattle.b2_types.specs.declared.kinds.Mark.TheVariants as mark
use Rattle.b2_types.specs.declared.kinds.Retention.{Retention}
use Rattle.b2_types.specs.declared.bucket.Bucket.{Bucket}
use Rattle.b2_types.specs.declared.key.Key.{Key}
use Rattle.b2_types.specs.declared.record.NewVersion.{NewVersion}
use Rattle.b2_types.specs.declared.record.VersionId.{VersionId}
use Rattle.b2_types.specs.declared.record.ChangeOf.{ChangeOf}
use Rattle.b2_types.specs.declared.record.ChangeOf.TheVariants as change
use Rattle.b2_types.specs.declared.version.PartOf.{PartOf}
use Rattle.b2_types.specs.declared.version.VersionOf.{VersionOf}
use Rattle.b2_model.specs.Kinds.{is_upload, is_start, day}
use Rattle.b2_model.specs.State.{State, bucket_at, key_at}
use Rattle.b2_model.specs.Lists.{put_by}
use Rattle.b2_types.specs.LifecycleRules.{are_rules}
use Rattle.b2_model.specs.Plan.{number_end}
use Rattle.b2_model.specs.Version.{no_digest, marker, version_from, is_it, with_part}
use Rattle.b2_model.specs.Finish.{finished_file}
use Rattle.b2_model.specs.Stored.{numbers_of, is_large, stands, may_make, may_be, is_number, applies_change}
use Rattle.b2_model.specs.Pass.{pass}
use Rattle.b2_model.specs.Changes.{after_record}
use Rattle.machine_laws.proofs.PassKeeps.{on_each}
use Rattle.sound_states.specs.Sound.{IsAscending, IsAmong, IsUpload, Holds, AreBuckets, AreVersions, AreKeys, AreTokens, AreFlights, IsSound, IsUploadMark, IsFitChange}
use Rattle.sound_states.proofs.Ascending.{ascends_nil, put_ascends, not_among}
use Rattle.sound_states.proofs.Tests.{both_hold, is_not, above_zero, less, at_most, not_found, found}
use Rattle.sound_states.proofs.Buckets.{made as bucket_made, changed as bucket_changed, fewer as fewer_buckets, renumbered as buckets_renumbered, has_name}
use Rattle.sound_states.proofs.Keys.{made as key_made, dropped as key_dropped, renumbered as keys_renumbered}
use Rattle.sound_states.proofs.Versions.{made as version_made, changed as version_changed, fewer as fewer_versions, more_buckets, changed_bucket, dropped_bucket, renumbered as versions_renumbered}
use Rattle.sound_states.proofs.Passed.{pass_sound, each_rises}
use Rattle.sound_states.proofs.Tokens.{no_tokens, no_flights, tokens_later, fewer_tokens, is_kept, kept_flights}

-- what a new number is
number_tells : (n : ℕ) → is_number n ≡ true → (0 < n) × (n < number_end)
number_tells n is = let both = both_hold (not (n == 0)) (nat_lt n number_end) is in (above_zero n both.0, less n number_end both.1)

module _ {C : Type 0} where
  -- ---- versions

  -- what may be made: its bucket stands, and its number is free
  pub record MayBeMade (M : State C) (bucket num : ℕ) : Type 0 where
    pub placed : IsAmong M.buckets bucket
    pub above : 0 < num
    pub free : list_any (λ v. v.num == num) M.versions ≡ false

  pub may_tells : (M : State C) (bucket num : ℕ) → may_make M bucket num ≡ true → MayBeMade M bucket num
  may_tells M bucket num is =
      let both = both_hold (is_some (bucket_at M bucket) && not (num == 0)) (not (list_any (λ v. v.num == num) M.versions)) is in
      let first = both_hold (is_some (bucket_at M bucket)) (not (num == 0)) both.0 in
      record {
        placed = found (λ b. b.num == bucket) M.buckets first.0;
        above = above_zero num first.1;
        free = is_not (list_any (λ v. v.num == num) M.versions) both.1;
      }

  with_new : (M : State C) (v : VersionOf C) → IsSound M → may_make M v.bucket v.num ≡ true → Holds v.action v → AreVersions M.buckets (max M.next_version (v.num + 1)) (put_by (λ w. w.num) v M.versions)
  with_new M v sound may holds =
      let tells = may_tells M v.bucket v.num may in
      version_made M.buckets M.next_version M.versions v sound.versions tells.above tells.free tells.placed holds

  -- a state whose versions are others
  other_versions : (M : State C) (t next : ℕ) (versions : List (VersionOf C)) → M.next_version ≤ next → IsSound M → AreVersions M.buckets next versions
      → IsSound (record M { now = t; kept = t; versions = versions; next_version = next })
  other_versions M t next versions rises sound are = record {
    buckets = sound.buckets;
    versions = are;
    keys = sound.keys;
    tokens = tokens_later (numbers_of M) _ M.serial M.grants (record { boot = refl; buckets = omega arith; keys = omega arith; versions = rises }) sound.tokens;
    flights = sound.flights;
    moments = omega arith;
  }

  -- a version that stands is changed
  at_one : (M : State C) (t : ℕ) (id : VersionId) (test : VersionOf C → Bool) (f : VersionOf C → VersionOf C) → IsSound M → stands M id test ≡ true
      → ((v : VersionOf C) → (f v).num ≡ v.num) → ((v : VersionOf C) → (f v).bucket ≡ v.bucket) → ((v : VersionOf C) → test v ≡ true → Holds v.action v → Holds (f v).action (f v))
      → IsSound (record M { now = t; kept = t; versions = map (λ v. if is_it id v then f v else v) M.versions })
  at_one M t id test f sound there nums buckets holds =
      other_versions M t M.next_version (map (λ v. if is_it id v then f v else v) M.versions) (omega arith) sound
      (version_changed M.buckets M.next_version M.versions id test f sound.versions there nums buckets holds)

  without : (M : State C) (t : ℕ) (id : VersionId) → IsSound M → IsSound (record M { now = t; kept = t; versions = filter (λ v. not (is_it id v)) M.versions })
  without M t id sound =
      other_versions M t M.next_version (filter (λ v. not (is_it id v)) M.versions) (omega arith) sound (fewer_versions M.buckets M.next_version (λ v. not (is_it id v)) M.versions sound.versions)

  -- ---- what versions hold

  upload_holds : (t : ℕ) (v : NewVersion) (content : C) (m : Mark) (digest : List ℕ) → IsUploadMark m → Holds action.Upload (version_from t action.Upload (content ∷ []) m digest v)
  upload_holds t v content mark.Verified digest fit = (refl, refl)
  upload_holds t v content mark.Unverified digest fit = (refl, refl)
  upload_holds t v content mark.Large digest fit = absurd fit
  upload_holds t v content mark.Marker digest fit = absurd fit

  start_holds : (t : ℕ) (v : NewVersion) → Holds {C = C} action.Start (version_from t action.Start [] mark.Large no_digest v)
  start_holds t v = record { content = refl; mark = refl; digest = refl; parts = ascends_nil (λ p. p.number) }

  -- a part takes the place of one of its number
  kept_apart : (n : ℕ) (p : PartOf C) (ps : List (PartOf C)) (b : Bool) → (p.number == n) ≡ b → list_any (λ q. q.number == n) (filter (λ q. not (q.number == n)) ps) ≡ false
      → list_any (λ q. q.number == n) (if not b then p ∷ filter (λ q. not (q.number == n)) ps else filter (λ q. not (q.number == n)) ps) ≡ false
  kept_apart n p ps true is rest = rest
  kept_apart n p ps false is rest = rw is rest

  without_number : (n : ℕ) (ps : List (PartOf C)) → list_any (λ q. q.number == n) (filter (λ q. not (q.number == n)) ps) ≡ false
  without_number n [] = refl
  without_number n (p ∷ ps) = kept_apart n p ps (p.number == n) refl (without_number n ps)

  part_put : (p : PartOf C) (v : VersionOf C) → IsAscending (λ q. q.number) v.parts → IsAscending (λ q. q.number) (with_part p v).parts
  part_put p v order =
      let others = filter (λ q. not (q.number == p.number)) v.parts in
      put_ascends (λ q. q.number) p others (AllPairs-filter (λ a b. a.number < b.number) (λ q. not (q.number == p.number)) v.parts order)
      (not_among (λ q. q.number) p.number others (without_number p.number v.parts))

  part_holds : (p : PartOf C) (v : VersionOf C) (a : Action) → v.action ≡ a → is_start a ≡ true → Holds a v → Holds a (with_part p v)
  part_holds p v action.Upload is start holds = absurd (false≢true start)
  part_holds p v action.Hide is start holds = absurd (false≢true start)
  part_holds p v action.Start is start holds = record { content = holds.content; mark = holds.mark; digest = holds.digest; parts = part_put p v holds.parts }

  finish_holds : (retention : Option Retention) (v : VersionOf C) (a : Action) → is_start a ≡ true → Holds a v → Holds action.Upload (finished_file retention v)
  finish_holds retention v action.Upload start holds = absurd (false≢true start)
  finish_holds retention v action.Hide start holds = absurd (false≢true start)
  finish_holds retention v action.Start start holds = (holds.digest, refl)

  -- an upload whose retention or hold is set
  upload_mark : (v w : VersionOf C) (m : Mark) → w.content ≡ v.content → w.digest ≡ v.digest → IsUpload m v → IsUpload m w
  upload_mark v w mark.Verified contents digests holds = subst (λ c. length c ≡ 1) (sym contents) holds
  upload_mark v w mark.Unverified contents digests holds = subst (λ c. length c ≡ 1) (sym contents) holds
  upload_mark v w mark.Large contents digests holds = digests ∙ holds
  upload_mark v w mark.Marker contents digests holds = holds

  retain_holds : (retention : Option Retention) (v : VersionOf C) (a : Action) → is_upload a ≡ true → Holds a v → Holds a (record v { retention = retention })
  retain_holds retention v action.Upload up holds = (upload_mark v (record v { retention = retention }) v.mark refl refl holds.0, holds.1)
  retain_holds retention v action.Hide up holds = absurd (false≢true up)
  retain_holds retention v action.Start up holds = absurd (false≢true up)

  hold_holds : (hold : Bool) (v : VersionOf C) (a : Action) → is_upload a ≡ true → Holds a v → Holds a (record v { hold = hold })
  hold_holds hold v action.Upload up holds = (upload_mark v (record v { hold = hold }) v.mark refl refl holds.0, holds.1)
  hold_holds hold v action.Hide up holds = absurd (false≢true up)
  hold_holds hold v action.Start up holds = absurd (false≢true up)

  large_mark : (v w : VersionOf C) (m : Mark) → is_large m ≡ true → w.digest ≡ v.digest → IsUpload m v → IsUpload m w
  large_mark v w mark.Verified large digests holds = absurd (false≢true large)
  large_mark v w mark.Unverified large digests holds = absurd (false≢true large)
  large_mark v w mark.Large large digests holds = digests ∙ holds
  large_mark v w mark.Marker large digests holds = absurd (false≢true large)

  pieces_hold : (pieces : List C) (v : VersionOf C) (a : Action) → (is_large v.mark && is_upload a) ≡ true → Holds a v → Holds a (record v { content = v.content ++ pieces })
  pieces_hold pieces v action.Upload large holds =
      (large_mark v (record v { content = v.content ++ pieces }) v.mark (both_hold (is_large v.mark) true large).0 refl holds.0, holds.1)
  pieces_hold pieces v action.Hide large holds = absurd (false≢true (both_hold (is_large v.mark) false large).1)
  pieces_hold pieces v action.Start large holds = absurd (false≢true (both_hold (is_large v.mark) false large).1)

  -- ---- records

  bucket_put : (M : State C) (t : ℕ) (b : Bucket) → IsSound M → applies_change M (change.BucketMake b) ≡ true → IsSound (after_record M (record { at = t; change = change.BucketMake b }))
  bucket_put M t b sound is =
      let all = both_hold (is_number b.num && is_none (bucket_at M b.num)) (may_be M b) is in
      let first = both_hold (is_number b.num) (is_none (bucket_at M b.num)) all.0 in
      let number = number_tells b.num first.0 in
      let free = not_found (λ a. a.num == b.num) M.buckets first.1 in
      let may = both_hold (not (list_any (has_name b) M.buckets)) (are_rules b.rules) all.1 in
      record {
        buckets = bucket_made M.next_bucket M.buckets b sound.buckets number.0 number.1 free (is_not (list_any (has_name b) M.buckets) may.0) may.1;
        versions = more_buckets M.buckets b M.next_version M.versions sound.versions;
        keys = sound.keys;
        tokens = tokens_later (numbers_of M) _ M.serial M.grants (record { boot = refl; buckets = omega arith; keys = omega arith; versions = omega arith }) sound.tokens;
        flights = sound.flights;
        moments = omega arith;
      }

  bucket_set : (M : State C) (t : ℕ) (b : Bucket) → IsSound M → applies_change M (change.BucketUpdate b) ≡ true → IsSound (after_record M (record { at = t; change = change.BucketUpdate b }))
  bucket_set M t b sound is =
      let all = both_hold (is_some (bucket_at M b.num)) (may_be M b) is in
      let may = both_hold (not (list_any (has_name b) M.buckets)) (are_rules b.rules) all.1 in
      record {
        buckets = bucket_changed M.next_bucket M.buckets b sound.buckets (is_not (list_any (has_name b) M.buckets) may.0) may.1;
        versions = changed_bucket M.buckets b M.next_version M.versions sound.versions;
        keys = sound.keys;
        tokens = sound.tokens;
        flights = sound.flights;
        moments = omega arith;
      }

  bucket_gone : (M : State C) (t n : ℕ) → IsSound M → applies_change M (change.BucketDrop n) ≡ true → IsSound (after_record M (record { at = t; change = change.BucketDrop n }))
  bucket_gone M t n sound is =
      let all = both_hold (is_some (bucket_at M n)) (not (list_any (λ v. v.bucket == n) M.versions)) is in
      record {
        buckets = fewer_buckets M.next_bucket (λ b. not (b.num == n)) M.buckets sound.buckets;
        versions = dropped_bucket M.buckets n M.next_version M.versions (is_not (list_any (λ v. v.bucket == n) M.versions) all.1) sound.versions;
        keys = sound.keys;
        tokens = sound.tokens;
        flights = sound.flights;
        moments = omega arith;
      }

  key_put : (M : State C) (t : ℕ) (k : Key) → IsSound M → applies_change M (change.KeyMake k) ≡ true → IsSound (after_record M (record { at = t; change = change.KeyMake k }))
  key_put M t k sound is =
      let all = both_hold (is_number k.num) (is_none (key_at M k.num)) is in
      let number = number_tells k.num all.0 in
      record {
        buckets = sound.buckets;
        versions = sound.versions;
        keys = key_made M.settings M.next_key M.keys k sound.keys number.0 number.1 (not_found (λ a. a.num == k.num) M.keys all.1);
        tokens = tokens_later (numbers_of M) _ M.serial M.grants (record { boot = refl; buckets = omega arith; keys = omega arith; versions = omega arith }) sound.tokens;
        flights = sound.flights;
        moments = omega arith;
      }

  key_gone : (M : State C) (t n : ℕ) → IsSound M → applies_change M (change.KeyDrop n) ≡ true → IsSound (after_record M (record { at = t; change = change.KeyDrop n }))
  key_gone M t n sound is =
      let all = both_hold (not (n == 0)) (is_some (key_at M n)) is in
      record {
        buckets = sound.buckets;
        versions = sound.versions;
        keys = key_dropped M.settings M.next_key n M.keys sound.keys (above_zero n all.0);
        tokens = sound.tokens;
        flights = sound.flights;
        moments = omega arith;
      }

  -- what a pass makes of a state after its work on names
  abbrev forgotten : ℕ → State C → State C
  forgotten t N = record N { now = t; kept = t; pass_day = t / day; grants = filter (is_kept t N.flights) N.grants }

  -- a pass changes versions alone, and tokens
  passed : (M : State C) (t : ℕ) → IsSound M → IsSound (after_record M (record { at = t; change = change.Pass }))
  passed M t sound =
      let others = on_each t M.buckets M in
      let same_buckets : (pass t M).buckets ≡ M.buckets = ap (λ N. N.buckets) others in
      let same_settings : (pass t M).settings ≡ M.settings = ap (λ N. N.settings) others in
      record {
        buckets = subst (λ N. AreBuckets N.next_bucket N.buckets) (sym others) sound.buckets;
        versions = subst (λ bs. AreVersions bs (pass t M).next_version (pass t M).versions) (sym same_buckets) (pass_sound t M sound.versions);
        keys = subst (λ N. AreKeys N.settings N.next_key N.keys) (sym others) sound.keys;
        tokens = subst (λ N. AreTokens (numbers_of (forgotten t N)) N.serial (forgotten t N).grants) (sym others)
            (fewer_tokens _ M.serial (is_kept t M.flights) M.grants (tokens_later (numbers_of M) _ M.serial M.grants
            (record { boot = refl; buckets = omega arith; keys = omega arith; versions = each_rises t M.buckets M }) sound.tokens));
        flights = subst (λ N. AreFlights (forgotten t N).grants N.flights) (sym others) (kept_flights t M.grants M.flights sound.flights);
        moments = omega arith;
      }

  pub record_sound : (M : State C) (t : ℕ) (ch : ChangeOf C) → IsSound M → applies_change M ch ≡ true → IsFitChange ch → IsSound (after_record M (record { at = t; change = ch }))
  record_sound M t (change.Settings s) sound is fit = absurd (false≢true is)
  record_sound M t (change.Boot n) sound is fit = record { buckets = sound.buckets; versions = sound.versions; keys = sound.keys; tokens = no_tokens _ 0 (omega arith); flights = no_flights []; moments = omega arith }
  record_sound M t change.Pass sound is fit = passed M t sound
  record_sound M t (change.BucketMake b) sound is fit = bucket_put M t b sound is
  record_sound M t (change.BucketUpdate b) sound is fit = bucket_set M t b sound is
  record_sound M t (change.BucketDrop n) sound is fit = bucket_gone M t n sound is
  record_sound M t (change.Upload v content m digest) sound is fit =
      let w = version_from t action.Upload (content ∷ []) m digest v in
      other_versions M t (max M.next_version (v.num + 1)) (put_by (λ x. x.num) w M.versions) (omega arith) sound (with_new M w sound is (upload_holds t v content m digest fit))
  record_sound M t (change.Hide id name) sound is fit =
      let w = marker id.bucket id.num name t in
      other_versions M t (max M.next_version (id.num + 1)) (put_by (λ x. x.num) w M.versions) (omega arith) sound (with_new M w sound is refl)
  record_sound M t (change.Start v) sound is fit =
      let w = version_from t action.Start [] mark.Large no_digest v in
      other_versions M t (max M.next_version (v.num + 1)) (put_by (λ x. x.num) w M.versions) (omega arith) sound (with_new M w sound is (start_holds t v))
  record_sound M t (change.PartPut id n content m digest) sound is fit =
      let p : PartOf C = record { number = n; content = content; mark = m; digest = digest; stamp = t } in
      at_one M t id (λ v. is_start v.action) (with_part p) sound is (λ v. refl) (λ v. refl) (λ v start holds. part_holds p v v.action refl start holds)
  record_sound M t (change.Finish id retention) sound is fit =
      at_one M t id (λ v. is_start v.action) (finished_file retention) sound is (λ v. refl) (λ v. refl) (λ v start holds. finish_holds retention v v.action start holds)
  record_sound M t (change.Cancel id) sound is fit = without M t id sound
  record_sound M t (change.VersionDrop id) sound is fit = without M t id sound
  record_sound M t (change.Retain id retention) sound is fit =
      at_one M t id (λ v. is_upload v.action) (λ v. record v { retention = retention }) sound is (λ v. refl) (λ v. refl) (λ v up holds. retain_holds retention v v.action up holds)
  record_sound M t (change.Hold id hold) sound is fit =
      at_one M t id (λ v. is_upload v.action) (λ v. record v { hold = hold }) sound is (λ v. refl) (λ v. refl) (λ v up holds. hold_holds hold v v.action up holds)
  record_sound M t (change.KeyMake k) sound is fit = key_put M t k sound is
  record_sound M t (change.KeyDrop n) sound is fit = key_gone M t n sound is
  record_sound M t (change.SnapState n) sound is fit =
      let all = both_hold (nat_le M.next_bucket n.next_bucket && nat_le M.next_key n.next_key) (nat_le M.next_version n.next_version) is in
      let both = both_hold (nat_le M.next_bucket n.next_bucket) (nat_le M.next_key n.next_key) all.0 in
      record {
        buckets = buckets_renumbered M.next_bucket n.next_bucket M.buckets (at_most M.next_bucket n.next_bucket both.0) fit.0 sound.buckets;
        versions = versions_renumbered M.buckets M.next_version n.next_version M.versions (at_most M.next_version n.next_version all.1) sound.versions;
        keys = keys_renumbered M.settings M.next_key n.next_key M.keys (at_most M.next_key n.next_key both.1) fit.1 sound.keys;
        tokens = no_tokens _ 0 (omega arith);
        flights = no_flights [];
        moments = omega arith;
      }
  record_sound M t (change.SnapLarge v) sound is fit =
      let w = version_from t action.Upload [] mark.Large no_digest v in
      other_versions M t (max M.next_version (v.num + 1)) (put_by (λ x. x.num) w M.versions) (omega arith) sound (with_new M w sound is (refl, refl))
  record_sound M t (change.SnapExtents id pieces) sound is fit =
      at_one M t id (λ v. is_large v.mark && is_upload v.action) (λ v. record v { content = v.content ++ pieces }) sound is (λ v. refl) (λ v. refl)
      (λ v large holds. pieces_hold pieces v v.action large holds)
