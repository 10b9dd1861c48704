-- Changes of buckets keep them sound.
use Rattle.std.proofs.Common.{◌≡◌, ℕ, ◌+◌, ◌<◌, ◌≤◌, ◌==◌, max, Bool, true, false, not, ◌&&◌, List, map, filter, if◌then◌else◌, refl, sym, ap, subst, ◌∙◌, arith}
use Rattle.std.specs.List.{list_any}
use Rattle.std.specs.Char.{to_ascii_lowercase}
use Rattle.std.proofs.lemmas.List.Elements.{All-map, All-filter}
use Rattle.std.proofs.lemmas.List.Kept.{AllPairs-filter}
use Rattle.b2_types.specs.declared.bucket.Bucket.{Bucket}
use Rattle.b2_model.specs.Lists.{put_by}
use Rattle.b2_model.specs.Policy.{is_same_name}
use Rattle.b2_types.specs.LifecycleRules.{are_rules}
use Rattle.b2_model.specs.Plan.{number_end}
use Rattle.sound_states.specs.Sound.{IsGiven, AreBuckets}
use Rattle.sound_states.proofs.Ascending.{put_all, put_ascends, put_pairs, map_ascends, map_pairs, not_among, all_from, all_from_both}
use Rattle.sound_states.proofs.Tests.{equal_numbers, not_equal, none_passes, text_back}

-- ---- names

pub name_back : (a b : List ℕ) → is_same_name a b ≡ is_same_name b a
name_back a b = text_back (map to_ascii_lowercase a) (map to_ascii_lowercase b)

-- another bucket has the name
abbrev pub has_name : Bucket → Bucket → Bool
has_name b a = not (a.num == b.num) && is_same_name a.name b.name

other_name : (b a : Bucket) → has_name b a ≡ false → (a.num == b.num) ≡ false → is_same_name a.name b.name ≡ false
other_name b a none apart = sym (ap (λ same. not same && is_same_name a.name b.name) apart) ∙ none

-- ---- a new one

given_more : (next n m : ℕ) → IsGiven next n → IsGiven (max next (m + 1)) n
given_more next n m given = (given.0, omega (arith, given.1))

abbrev NamesApart : Bucket → Bucket → Type 0
NamesApart a b = is_same_name a.name b.name ≡ false

both_ways : (b a : Bucket) → has_name b a ≡ false → (a.num == b.num) ≡ false → NamesApart b a × NamesApart a b
both_ways b a none apart = let one = other_name b a none apart in (name_back b.name a.name ∙ one, one)

pub made : (next : ℕ) (bs : List Bucket) (b : Bucket) → AreBuckets next bs → 0 < b.num → b.num < number_end → list_any (λ a. a.num == b.num) bs ≡ false
    → list_any (has_name b) bs ≡ false → are_rules b.rules ≡ true → AreBuckets (max next (b.num + 1)) (put_by (λ a. a.num) b bs)
made next bs b sound above below free names rules =
    let apart = not_among (λ a. a.num) b.num bs free in
    let unlike = none_passes (has_name b) bs names in
    let here : IsGiven (max next (b.num + 1)) b.num = (above, omega arith) in
    let first = sound.first in
    let last = sound.last in
    let others = all_from_both (λ a. a.num ≡ b.num → ⊥) (λ a. has_name b a ≡ false) (λ a. NamesApart b a × NamesApart a b) bs (λ a far none. both_ways b a none (not_equal a.num b.num far)) apart unlike in
    record {
      order = put_ascends (λ a. a.num) b bs sound.order apart;
      given = put_all (λ a. a.num) (λ a. IsGiven (max next (b.num + 1)) a.num) b bs here (all_from (λ a. IsGiven next a.num) (λ a. IsGiven (max next (b.num + 1)) a.num) bs (λ a old. given_more next a.num b.num old) sound.given);
      names = put_pairs (λ a. a.num) NamesApart b bs sound.names others;
      rules = put_all (λ a. a.num) (λ a. are_rules a.rules ≡ true) b bs rules sound.rules;
      first = omega (arith, first);
      last = omega (arith, last, below);
    }

-- ---- one that is changed

abbrev pub in_place : Bucket → Bucket → Bucket
in_place b a = if a.num == b.num then b else a

place_num : (b a : Bucket) (same : Bool) → (a.num == b.num) ≡ same → (if same then b else a).num ≡ a.num
place_num b a true is = sym (equal_numbers a.num b.num is)
place_num b a false is = refl

pub same_num : (b a : Bucket) → (in_place b a).num ≡ a.num
same_num b a = place_num b a (a.num == b.num) refl

place_both : (P : Bucket → Type 0) (b a : Bucket) (same : Bool) → P b → P a → P (if same then b else a)
place_both P b a true new old = new
place_both P b a false new old = old

place_names : (b x y : Bucket) (at_x at_y : Bool) → (x.num == b.num) ≡ at_x → (y.num == b.num) ≡ at_y → x.num < y.num → has_name b x ≡ false → has_name b y ≡ false → NamesApart x y
    → NamesApart (if at_x then b else x) (if at_y then b else y)
place_names b x y true true is_x is_y before none_x none_y apart =
    let one = equal_numbers x.num b.num is_x in
    let two = equal_numbers y.num b.num is_y in
    absurd (omega (arith, before, one, two))
place_names b x y true false is_x is_y before none_x none_y apart = name_back b.name y.name ∙ other_name b y none_y is_y
place_names b x y false true is_x is_y before none_x none_y apart = other_name b x none_x is_x
place_names b x y false false is_x is_y before none_x none_y apart = apart

pub changed : (next : ℕ) (bs : List Bucket) (b : Bucket) → AreBuckets next bs → list_any (has_name b) bs ≡ false → are_rules b.rules ≡ true → AreBuckets next (map (in_place b) bs)
changed next bs b sound names rules =
    let unlike = none_passes (has_name b) bs names in
    record {
      order = map_ascends (λ a. a.num) (in_place b) (same_num b) bs sound.order;
      given = All-map (λ a. IsGiven next a.num) (in_place b) bs (all_from (λ a. IsGiven next a.num) (λ a. IsGiven next (in_place b a).num) bs (λ a old. subst (IsGiven next) (sym (same_num b a)) old) sound.given);
      names = map_pairs (λ a. a.num) NamesApart (in_place b) bs (λ i j d lt within.
          place_names b _ _ _ _ refl refl (sound.order i j d lt within) (unlike i d (omega (arith, lt, within))) (unlike j d within) (sound.names i j d lt within));
      rules = All-map (λ a. are_rules a.rules ≡ true) (in_place b) bs (all_from (λ a. are_rules a.rules ≡ true) (λ a. are_rules (in_place b a).rules ≡ true) bs (λ a old. place_both (λ a. are_rules a.rules ≡ true) b a (a.num == b.num) rules old) sound.rules);
      first = sound.first;
      last = sound.last;
    }

-- ---- one that is dropped

pub fewer : (next : ℕ) (p : Bucket → Bool) (bs : List Bucket) → AreBuckets next bs → AreBuckets next (filter p bs)
fewer next p bs sound = record {
  order = AllPairs-filter (λ a b. a.num < b.num) p bs sound.order;
  given = All-filter p (λ a. IsGiven next a.num) bs sound.given;
  names = AllPairs-filter NamesApart p bs sound.names;
  rules = All-filter p (λ a. are_rules a.rules ≡ true) bs sound.rules;
  first = sound.first;
  last = sound.last;
}

-- ---- the next number rises

pub renumbered : (next more : ℕ) (bs : List Bucket) → next ≤ more → more ≤ number_end → AreBuckets next bs → AreBuckets more bs
renumbered next more bs rises last sound =
    let first = sound.first in
    record {
      order = sound.order;
      given = λ k d within. let old = sound.given k d within in (old.0, omega (arith, old.1, rises));
      names = sound.names;
      rules = sound.rules;
      first = omega (arith, first, rises);
      last = last;
    }
