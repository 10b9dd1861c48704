-- The replay of a snapshot: its buckets and its keys.
use Rattle.std.proofs.Common.{◌≡◌, ℕ, ◌+◌, ◌<◌, ◌≤◌, ◌==◌, max, true, false, not, ◌&&◌, List, [], ◌∷◌, ◌++◌, All, Option, None, map, if◌then◌else◌, refl, sym, ap, subst, ◌∙◌, arith, append_assoc, append-nil}
use Rattle.std.specs.Option.{is_none}
use Rattle.std.specs.List.{AllPairs, list_any}
use Rattle.std.proofs.lemmas.List.Elements.{All-tail}
use Rattle.b2_base.specs.declared.settings.Settings.{Settings}
use Rattle.b2_types.specs.declared.bucket.Bucket.{Bucket}
use Rattle.b2_types.specs.declared.key.Key.{Key}
use Rattle.b2_types.specs.declared.version.VersionOf.{VersionOf}
use Rattle.b2_types.specs.declared.record.RecordOf.{RecordOf}
use Rattle.b2_types.specs.declared.record.ChangeOf.{ChangeOf}
use Rattle.b2_types.specs.declared.record.ChangeOf.TheVariants as change
use Rattle.b2_model.specs.State.{State, bucket_at, key_at}
use Rattle.b2_model.specs.Policy.{is_same_name}
use Rattle.b2_types.specs.LifecycleRules.{are_rules}
use Rattle.b2_model.specs.Plan.{number_end}
use Rattle.b2_model.specs.Changes.{after_record}
use Rattle.b2_model.specs.Stored.{is_number, may_be, applies_change, is_snap_state, Replayed, replay_one, replay_on, record_at}
use Rattle.sound_states.specs.Sound.{IsGiven, AreBuckets, AreKeys}
use Rattle.sound_states.proofs.Ascending.{all_from, put_last}
use Rattle.sound_states.proofs.Tests.{holds_both, not_equal}
use Rattle.sound_states.proofs.Buckets.{has_name}
use Rattle.sound_states.proofs.Found.{none_found, none_of_all, unlike, a_number}
use Rattle.snapshot_laws.proofs.Ends.{at_item, before_item}

-- a number above those of a list is free in it
pub none_at : {X : Type 0} (num : X → ℕ) (n : ℕ) (xs : List X) → All (λ x. num x < n) xs → list_any (λ x. num x == n) xs ≡ false
none_at num n xs below = none_of_all (λ x. num x == n) xs (all_from (λ x. num x < n) (λ x. (num x == n) ≡ false) xs (λ x lt. not_equal (num x) n (λ same. absurd (omega (arith, lt, same)))) below)

module _ {C : Type 0} where
  -- ---- one record

  -- before the numbers of the snapshot
  abbrev pub before_numbers : State C → Replayed C
  before_numbers M = record { state = M; settled = false }

  pub goes : (M : State C) (t : ℕ) (ch : ChangeOf C) (rs : List (RecordOf C)) → applies_change M ch ≡ true → is_snap_state ch ≡ false
      → replay_on (before_numbers M) (record_at t ch ∷ rs) ≡ replay_on (before_numbers (after_record M (record_at t ch))) rs
  goes M t ch rs applies other =
      ap (λ b. if b && true then replay_on (replay_one (before_numbers M) (record_at t ch)) rs else None) applies
      ∙ ap (λ b. replay_on (record { state = after_record M (record_at t ch); settled = b }) rs) other

  -- a state on the way
  abbrev pub partial : Settings → ℕ → ℕ → ℕ → ℕ → List Bucket → List (VersionOf C) → List Key → State C
  partial settings t buckets_next keys_next versions_next buckets versions keys = record {
    settings = settings;
    now = t;
    kept = t;
    pass_day = 0;
    boot = 0;
    serial = 0;
    next_bucket = buckets_next;
    next_key = keys_next;
    next_version = versions_next;
    buckets = buckets;
    versions = versions;
    keys = keys;
    grants = [];
    flights = [];
  }

  -- ---- buckets

  module _ (settings : Settings) (t last : ℕ) (all : List Bucket) (sound : AreBuckets last all) (keys : List Key) (rest : List (RecordOf C)) (G : Option (Replayed C)) where
    -- the state with these buckets
    abbrev with_buckets : ℕ → List Bucket → State C
    with_buckets next buckets = partial settings t next 1 1 buckets [] keys

    bucket_applies : (next : ℕ) (before : List Bucket) (b : Bucket) (after : List Bucket) → before ++ b ∷ after ≡ all → applies_change (with_buckets next before) (change.BucketMake b) ≡ true
    bucket_applies next before b after is =
        let below = before_item (λ x y. x.num < y.num) before b after (subst (AllPairs (λ x y. x.num < y.num)) (sym is) sound.order) in
        let names = before_item (λ x y. is_same_name x.name y.name ≡ false) before b after (subst (AllPairs (λ x y. is_same_name x.name y.name ≡ false)) (sym is) sound.names) in
        let given = at_item (λ x. IsGiven last x.num) before b after (subst (All (λ x. IsGiven last x.num)) (sym is) sound.given) in
        let rules = at_item (λ x. are_rules x.rules ≡ true) before b after (subst (All (λ x. are_rules x.rules ≡ true)) (sym is) sound.rules) in
        let bound = sound.last in
        let number = a_number b.num given.0 (omega (arith, given.1, bound)) (not_equal b.num number_end (λ same. absurd (omega (arith, given.1, bound, same)))) in
        let free = none_found (λ a. a.num == b.num) before (none_at (λ a. a.num) b.num before below) in
        let unnamed = none_of_all (has_name b) before (all_from (λ x. is_same_name x.name b.name ≡ false) (λ x. has_name b x ≡ false) before (λ x apart. unlike b x apart) names) in
        holds_both (is_number b.num && is_none (bucket_at (with_buckets next before) b.num)) (may_be (with_buckets next before) b)
        (holds_both (is_number b.num) (is_none (bucket_at (with_buckets next before) b.num)) number free)
        (holds_both (not (list_any (has_name b) before)) (are_rules b.rules) (ap not unnamed) rules)

    pub buckets_on : (before after : List Bucket) (next : ℕ) → before ++ after ≡ all → next ≤ last → ((n : ℕ) → n ≤ last → replay_on (before_numbers (with_buckets n all)) rest ≡ G)
        → replay_on (before_numbers (with_buckets next before)) (map (λ b. record_at t (change.BucketMake b)) after ++ rest) ≡ G
    buckets_on before [] next is within go =
        ap (λ buckets. replay_on (before_numbers (with_buckets next buckets)) rest) (sym (append-nil before) ∙ is) ∙ go next within
    buckets_on before (b ∷ after) next is within go =
        let below = before_item (λ x y. x.num < y.num) before b after (subst (AllPairs (λ x y. x.num < y.num)) (sym is) sound.order) in
        let given = at_item (λ x. IsGiven last x.num) before b after (subst (All (λ x. IsGiven last x.num)) (sym is) sound.given) in
        goes (with_buckets next before) t (change.BucketMake b) (map (λ b. record_at t (change.BucketMake b)) after ++ rest) (bucket_applies next before b after is) refl
        ∙ ap (λ buckets. replay_on (before_numbers (with_buckets (max next (b.num + 1)) buckets)) (map (λ b. record_at t (change.BucketMake b)) after ++ rest)) (put_last (λ a. a.num) b before below)
        ∙ buckets_on (before ++ b ∷ []) after (max next (b.num + 1)) (append_assoc before (b ∷ []) after ∙ is) (omega (arith, within, given.1)) go

  -- ---- keys

  module _ (settings : Settings) (t buckets_next last versions_next : ℕ) (buckets : List Bucket) (versions : List (VersionOf C)) (all : List Key) (sound : AreKeys settings last all)
      (rest : List (RecordOf C)) (G : Option (Replayed C)) where
    -- the state with these keys
    abbrev with_keys : ℕ → ℕ → List Key → State C
    with_keys at next keys = partial settings at buckets_next next versions_next buckets versions keys

    pub keys_on : (at : ℕ) (before after : List Key) (next : ℕ) → before ++ after ≡ all → All (λ k. 0 < k.num) after → next ≤ last
        → ((at n : ℕ) → n ≤ last → replay_on (before_numbers (with_keys at n all)) rest ≡ G)
        → replay_on (before_numbers (with_keys at next before)) (map (λ k. record_at t (change.KeyMake k)) after ++ rest) ≡ G
    keys_on at before [] next is above within go =
        ap (λ keys. replay_on (before_numbers (with_keys at next keys)) rest) (sym (append-nil before) ∙ is) ∙ go at next within
    keys_on at before (k ∷ after) next is above within go =
        let below = before_item (λ x y. x.num < y.num) before k after (subst (AllPairs (λ x y. x.num < y.num)) (sym is) sound.order) in
        let given = at_item (λ x. x.num < last) before k after (subst (All (λ x. x.num < last)) (sym is) sound.given) in
        let positive = at_item (λ k. 0 < k.num) [] k after above in
        let bound = sound.last in
        let number = a_number k.num positive (omega (arith, given, bound)) (not_equal k.num number_end (λ same. absurd (omega (arith, given, bound, same)))) in
        let free = none_found (λ a. a.num == k.num) before (none_at (λ a. a.num) k.num before below) in
        goes (with_keys at next before) t (change.KeyMake k) (map (λ k. record_at t (change.KeyMake k)) after ++ rest)
        (holds_both (is_number k.num) (is_none (key_at (with_keys at next before) k.num)) number free) refl
        ∙ ap (λ keys. replay_on (before_numbers (with_keys t (max next (k.num + 1)) keys)) (map (λ k. record_at t (change.KeyMake k)) after ++ rest)) (put_last (λ a. a.num) k before below)
        ∙ keys_on t (before ++ k ∷ []) after (max next (k.num + 1)) (append_assoc before (k ∷ []) after ∙ is) (All-tail (λ k. 0 < k.num) k after above) (omega (arith, within, given)) go
