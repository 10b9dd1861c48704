-- Changes of versions, and of the buckets that they stand in, keep the versions sound.
use Rattle.std.proofs.Common.{◌≡◌, ℕ, ◌+◌, ◌<◌, ◌≤◌, ◌==◌, max, Bool, true, false, not, List, [], ◌∷◌, All, Some, map, filter, find, if◌then◌else◌, refl, sym, ap, subst, ◌∙◌, arith}
use Rattle.std.specs.List.{list_any}
use Rattle.std.proofs.lemmas.Bool.{false≢true}
use Rattle.std.proofs.lemmas.List.Elements.{All-nil, All-cons, All-map, All-filter}
use Rattle.std.proofs.lemmas.List.Kept.{AllPairs-filter}
use Rattle.std.proofs.lemmas.Map.Views.{any-filter_same}
use Rattle.b2_types.specs.declared.bucket.Bucket.{Bucket}
use Rattle.b2_types.specs.declared.record.VersionId.{VersionId}
use Rattle.b2_types.specs.declared.version.VersionOf.{VersionOf}
use Rattle.b2_model.specs.Checks.{some_and}
use Rattle.b2_model.specs.Lists.{put_by}
use Rattle.b2_model.specs.Version.{is_it}
use Rattle.sound_states.specs.Sound.{IsAscending, IsGiven, IsAmong, Holds, AreVersions}
use Rattle.sound_states.proofs.Ascending.{put_all, put_any, put_ascends, map_ascends, not_among, pairs_head, pairs_tail, all_from, all_from_both}
use Rattle.sound_states.proofs.Tests.{both_hold, equal_numbers, none_passes, any_map, any_same}
use Rattle.sound_states.proofs.Buckets.{in_place, same_num}

given_more : (next n m : ℕ) → IsGiven next n → IsGiven (max next (m + 1)) n
given_more next n m given = (given.0, omega (arith, given.1))

module _ {C : Type 0} where
  -- ---- a new one

  pub made : (bs : List Bucket) (next : ℕ) (vs : List (VersionOf C)) (v : VersionOf C) → AreVersions bs next vs → 0 < v.num → list_any (λ w. w.num == v.num) vs ≡ false → IsAmong bs v.bucket
      → Holds v.action v → AreVersions bs (max next (v.num + 1)) (put_by (λ w. w.num) v vs)
  made bs next vs v sound above free placed holds =
      let first = sound.first in
      let here : IsGiven (max next (v.num + 1)) v.num = (above, omega arith) in
      record {
        order = put_ascends (λ w. w.num) v vs sound.order (not_among (λ w. w.num) v.num vs free);
        given = put_all (λ w. w.num) (λ w. IsGiven (max next (v.num + 1)) w.num) v vs here (all_from (λ w. IsGiven next w.num) (λ w. IsGiven (max next (v.num + 1)) w.num) vs (λ w old. given_more next w.num v.num old) sound.given);
        placed = put_all (λ w. w.num) (λ w. IsAmong bs w.bucket) v vs placed sound.placed;
        hold = put_all (λ w. w.num) (λ w. Holds w.action w) v vs holds sound.hold;
        first = omega (arith, first);
      }

  -- ---- one that is changed

  abbrev pub in_it : VersionId → (VersionOf C → VersionOf C) → VersionOf C → VersionOf C
  in_it id f v = if is_it id v then f v else v

  -- what is so of the version that is found is so of each of the id, as there is one
  later_apart : (id : VersionId) (test : VersionOf C → Bool) (v : VersionOf C) (vs : List (VersionOf C)) → is_it id v ≡ true → All (λ w. v.num < w.num) vs
      → All (λ w. is_it id w ≡ true → test w ≡ true) vs
  later_apart id test v vs is later = all_from (λ w. v.num < w.num) (λ w. is_it id w ≡ true → test w ≡ true) vs (λ w before it.
      let one = equal_numbers v.num id.num (both_hold (v.bucket == id.bucket) (v.num == id.num) is).1 in
      let other = equal_numbers w.num id.num (both_hold (w.bucket == id.bucket) (w.num == id.num) it).1 in
      absurd (omega (arith, one, other, before))) later

  one_stands : (id : VersionId) (test : VersionOf C → Bool) (v : VersionOf C) (vs : List (VersionOf C)) (b : Bool) → is_it id v ≡ b → All (λ w. v.num < w.num) vs
      → (some_and test (find (is_it id) vs) ≡ true → All (λ w. is_it id w ≡ true → test w ≡ true) vs)
      → some_and test (if b then Some v else find (is_it id) vs) ≡ true → All (λ w. is_it id w ≡ true → test w ≡ true) (v ∷ vs)
  one_stands id test v vs true is later rest stands = All-cons (λ w. is_it id w ≡ true → test w ≡ true) v vs (λ it. stands) (later_apart id test v vs is later)
  one_stands id test v vs false is later rest stands =
      All-cons (λ w. is_it id w ≡ true → test w ≡ true) v vs (λ it. absurd (false≢true (sym is ∙ it))) (rest stands)

  pub each_stands : (id : VersionId) (test : VersionOf C → Bool) (vs : List (VersionOf C)) → IsAscending (λ v. v.num) vs → some_and test (find (is_it id) vs) ≡ true
      → All (λ v. is_it id v ≡ true → test v ≡ true) vs
  each_stands id test [] order stands = All-nil _
  each_stands id test (v ∷ vs) order stands =
      one_stands id test v vs (is_it id v) refl (pairs_head (λ a b. a.num < b.num) v vs order) (each_stands id test vs (pairs_tail (λ a b. a.num < b.num) v vs order)) stands

  place_num : (f : VersionOf C → VersionOf C) → ((v : VersionOf C) → (f v).num ≡ v.num) → (v : VersionOf C) (b : Bool) → (if b then f v else v).num ≡ v.num
  place_num f same v true = same v
  place_num f same v false = refl

  place_holds : (f : VersionOf C → VersionOf C) (v : VersionOf C) (P : VersionOf C → Type 0) (b : Bool) → (b ≡ true → P (f v)) → P v → P (if b then f v else v)
  place_holds f v P true changed old = changed refl
  place_holds f v P false changed old = old

  pub changed : (bs : List Bucket) (next : ℕ) (vs : List (VersionOf C)) (id : VersionId) (test : VersionOf C → Bool) (f : VersionOf C → VersionOf C)
      → AreVersions bs next vs → some_and test (find (is_it id) vs) ≡ true
      → ((v : VersionOf C) → (f v).num ≡ v.num) → ((v : VersionOf C) → (f v).bucket ≡ v.bucket) → ((v : VersionOf C) → test v ≡ true → Holds v.action v → Holds (f v).action (f v))
      → AreVersions bs next (map (in_it id f) vs)
  changed bs next vs id test f sound stands nums buckets holds =
      let each = each_stands id test vs sound.order stands in
      record {
        order = map_ascends (λ v. v.num) (in_it id f) (λ v. place_num f nums v (is_it id v)) vs sound.order;
        given = All-map (λ v. IsGiven next v.num) (in_it id f) vs (all_from (λ v. IsGiven next v.num) (λ v. IsGiven next (in_it id f v).num) vs
            (λ v old. place_holds f v (λ v. IsGiven next v.num) (is_it id v) (λ it. subst (IsGiven next) (sym (nums v)) old) old) sound.given);
        placed = All-map (λ v. IsAmong bs v.bucket) (in_it id f) vs (all_from (λ v. IsAmong bs v.bucket) (λ v. IsAmong bs (in_it id f v).bucket) vs
            (λ v old. place_holds f v (λ v. IsAmong bs v.bucket) (is_it id v) (λ it. subst (IsAmong bs) (sym (buckets v)) old) old) sound.placed);
        hold = All-map (λ v. Holds v.action v) (in_it id f) vs (all_from_both (λ v. is_it id v ≡ true → test v ≡ true) (λ v. Holds v.action v) (λ v. Holds (in_it id f v).action (in_it id f v)) vs
            (λ v passes old. place_holds f v (λ v. Holds v.action v) (is_it id v) (λ it. holds v (passes it) old) old) each sound.hold);
        first = sound.first;
      }

  -- ---- some that are dropped

  pub fewer : (bs : List Bucket) (next : ℕ) (p : VersionOf C → Bool) (vs : List (VersionOf C)) → AreVersions bs next vs → AreVersions bs next (filter p vs)
  fewer bs next p vs sound = record {
    order = AllPairs-filter (λ a b. a.num < b.num) p vs sound.order;
    given = All-filter p (λ v. IsGiven next v.num) vs sound.given;
    placed = All-filter p (λ v. IsAmong bs v.bucket) vs sound.placed;
    hold = All-filter p (λ v. Holds v.action v) vs sound.hold;
    first = sound.first;
  }

  -- ---- other buckets

  pub replaced : (bs cs : List Bucket) (next : ℕ) (vs : List (VersionOf C)) → All (λ v. IsAmong bs v.bucket → IsAmong cs v.bucket) vs → AreVersions bs next vs → AreVersions cs next vs
  replaced bs cs next vs stay sound = record {
    order = sound.order;
    given = sound.given;
    placed = λ k d within. stay k d within (sound.placed k d within);
    hold = sound.hold;
    first = sound.first;
  }

  each_so : (P : VersionOf C → Type 0) → ((v : VersionOf C) → P v) → (vs : List (VersionOf C)) → All P vs
  each_so P each vs k d within = each _

  pub more_buckets : (bs : List Bucket) (b : Bucket) (next : ℕ) (vs : List (VersionOf C)) → AreVersions bs next vs → AreVersions (put_by (λ a. a.num) b bs) next vs
  more_buckets bs b next vs sound = replaced bs (put_by (λ a. a.num) b bs) next vs (each_so (λ v. IsAmong bs v.bucket → IsAmong (put_by (λ a. a.num) b bs) v.bucket) (λ v among. put_any (λ a. a.num) (λ a. a.num == v.bucket) b bs among) vs) sound

  pub changed_bucket : (bs : List Bucket) (b : Bucket) (next : ℕ) (vs : List (VersionOf C)) → AreVersions bs next vs → AreVersions (map (in_place b) bs) next vs
  changed_bucket bs b next vs sound = replaced bs (map (in_place b) bs) next vs (each_so (λ v. IsAmong bs v.bucket → IsAmong (map (in_place b) bs) v.bucket) (λ v among. still b bs v.bucket ∙ among) vs) sound
    where
      still : (b : Bucket) (bs : List Bucket) (n : ℕ) → list_any (λ a. a.num == n) (map (in_place b) bs) ≡ list_any (λ a. a.num == n) bs
      still b bs n = any_map (λ a. a.num == n) (in_place b) bs ∙ any_same (λ a. (in_place b a).num == n) (λ a. a.num == n) (λ a. ap (λ m. m == n) (same_num b a)) bs

  -- no version stands in the bucket that goes
  pub dropped_bucket : (bs : List Bucket) (n next : ℕ) (vs : List (VersionOf C)) → list_any (λ v. v.bucket == n) vs ≡ false → AreVersions bs next vs
      → AreVersions (filter (λ b. not (b.num == n)) bs) next vs
  dropped_bucket bs n next vs empty sound =
      let apart = none_passes (λ v. v.bucket == n) vs empty in
      replaced bs (filter (λ b. not (b.num == n)) bs) next vs
      (all_from (λ v. (v.bucket == n) ≡ false) (λ v. IsAmong bs v.bucket → IsAmong (filter (λ b. not (b.num == n)) bs) v.bucket) vs
      (λ v far among. any-filter_same (λ b. b.num == v.bucket) (λ b. not (b.num == n)) true (λ b same. ap not (ap (λ m. m == n) (equal_numbers b.num v.bucket same) ∙ far)) bs ∙ among) apart) sound

  pub renumbered : (bs : List Bucket) (next more : ℕ) (vs : List (VersionOf C)) → next ≤ more → AreVersions bs next vs → AreVersions bs more vs
  renumbered bs next more vs rises sound =
      let first = sound.first in
      record {
        order = sound.order;
        given = all_from (λ v. IsGiven next v.num) (λ v. IsGiven more v.num) vs (λ v old. (old.0, omega (arith, old.1, rises))) sound.given;
        placed = sound.placed;
        hold = sound.hold;
        first = omega (arith, first, rises);
      }
