-- The lifecycle pass keeps a state sound.
use Rattle.std.proofs.Common.{◌≡◌, ℕ, ◌<◌, ◌≤◌, ◌==◌, nat_le, Bool, true, false, not, ◌&&◌, ◌||◌, List, [], ◌∷◌, ◌++◌, All, Option, Some, None, if◌then◌else◌, refl, arith}
use Rattle.std.specs.List.{list_any}
use Rattle.std.proofs.lemmas.List.Elements.{All-nil, All-cons, All-head, All-tail}
use Rattle.std.proofs.lemmas.Bool.Decides.{nat_tests}
use Rattle.b2_types.specs.declared.bucket.Bucket.{Bucket}
use Rattle.b2_types.specs.declared.bucket.Rule.{Rule}
use Rattle.b2_model.specs.State.{State}
use Rattle.b2_model.specs.Rows.{rows}
use Rattle.b2_model.specs.Version.{marker, with_version}
use Rattle.b2_model.specs.Pass.{rule_for, is_due, drops, is_same, names_in, with_due_hide, of_name, cancels, pass_on, pass_names, pass}
use Rattle.machine_laws.proofs.PassKeeps.{pass_each}
use Rattle.sound_states.specs.Sound.{IsGiven, IsAmong, AreVersions}
use Rattle.sound_states.proofs.Ascending.{all_from}
use Rattle.sound_states.proofs.Tests.{not_equal}
use Rattle.sound_states.proofs.Versions.{made, fewer}

-- a number above all that were given is free
pub free_number : {X : Type 0} (num : X → ℕ) (next : ℕ) (xs : List X) → All (λ x. num x < next) xs → list_any (λ x. num x == next) xs ≡ false
free_number num next [] below = refl
free_number num next (x ∷ xs) below =
    let here = All-head (λ x. num x < next) x xs below in
    let apart = not_equal (num x) next (λ same. absurd (omega (arith, here, same))) in
    rw apart (free_number num next xs (All-tail (λ x. num x < next) x xs below))

-- each bucket is among all
pub all_among : (bs : List Bucket) → All (λ b. IsAmong bs b.num) bs
all_among [] = All-nil _
all_among (b ∷ bs) =
    All-cons (λ a. IsAmong (b ∷ bs) a.num) b bs (here b.num (list_any (λ a. a.num == b.num) bs))
    (all_from (λ a. IsAmong bs a.num) (λ a. IsAmong (b ∷ bs) a.num) bs (λ a among. later (b.num == a.num) (list_any (λ c. c.num == a.num) bs) among) (all_among bs))
  where
    here : (n : ℕ) (rest : Bool) → ((n == n) || rest) ≡ true
    here n rest = let same : (n == n) ≡ true = grind (arith, nat_tests) in rw same refl

    later : (a b : Bool) → b ≡ true → (a || b) ≡ true
    later true b is = refl
    later false b is = is

module _ {C : Type 0} where
  -- the versions of a state, in these buckets
  abbrev pub Versioned : List Bucket → State C → Type 0
  Versioned bs M = AreVersions bs M.next_version M.versions

  marked : (bs : List Bucket) (t bucket : ℕ) (name : List ℕ) (M : State C) → IsAmong bs bucket → Versioned bs M → Versioned bs (with_version (marker bucket M.next_version name t) M)
  marked bs t bucket name M among sound =
      made bs M.next_version M.versions (marker bucket M.next_version name t) sound sound.first
      (free_number (λ v. v.num) M.next_version M.versions (all_from (λ v. IsGiven M.next_version v.num) (λ v. v.num < M.next_version) M.versions (λ v given. given.1) sound.given)) among refl

  if_sound : (bs : List Bucket) (b : Bool) (M N : State C) → Versioned bs M → Versioned bs N → Versioned bs (if b then N else M)
  if_sound bs true M N old new = new
  if_sound bs false M N old new = old

  on_name_sound : (bs : List Bucket) (t bucket : ℕ) (name : List ℕ) (rule : Option Rule) (M : State C) → IsAmong bs bucket → Versioned bs M → Versioned bs (pass_on t bucket name rule M)
  on_name_sound bs t bucket name None M among sound = sound
  on_name_sound bs t bucket name (Some rule) M among sound =
      let due = is_due t rule (of_name M bucket name) in
      let N = with_due_hide t bucket name due M in
      let gone = cancels M t bucket rule name ++ drops t rule (of_name N bucket name) in
      fewer bs N.next_version (λ v. not (list_any (is_same v) gone)) N.versions
      (if_sound bs (due && nat_le M.next_version M.settings.last_version) M (with_version (marker bucket M.next_version name t) M) sound (marked bs t bucket name M among sound))

  on_names_sound : (bs : List Bucket) (t : ℕ) (bucket : Bucket) (names : List (List ℕ)) (M : State C) → IsAmong bs bucket.num → Versioned bs M → Versioned bs (pass_names t bucket names M)
  on_names_sound bs t bucket [] M among sound = sound
  on_names_sound bs t bucket (name ∷ names) M among sound =
      on_names_sound bs t bucket names (pass_on t bucket.num name (rule_for bucket name) M) among (on_name_sound bs t bucket.num name (rule_for bucket name) M among sound)

  pub each_sound : (bs : List Bucket) (t : ℕ) (some : List Bucket) (M : State C) → All (λ b. IsAmong bs b.num) some → Versioned bs M → Versioned bs (pass_each t some M)
  each_sound bs t [] M among sound = sound
  each_sound bs t (b ∷ rest) M among sound =
      each_sound bs t rest (pass_names t b (names_in (rows M b.num)) M) (All-tail (λ b. IsAmong bs b.num) b rest among)
      (on_names_sound bs t b (names_in (rows M b.num)) M (All-head (λ b. IsAmong bs b.num) b rest among) sound)

  -- ---- the next number does not fall

  if_rises : (b : Bool) (M N : State C) → M.next_version ≤ N.next_version → M.next_version ≤ (if b then N else M).next_version
  if_rises true M N rises = rises
  if_rises false M N rises = omega arith

  on_name_rises : (t bucket : ℕ) (name : List ℕ) (rule : Option Rule) (M : State C) → M.next_version ≤ (pass_on t bucket name rule M).next_version
  on_name_rises t bucket name None M = omega arith
  on_name_rises t bucket name (Some rule) M =
      if_rises (is_due t rule (of_name M bucket name) && nat_le M.next_version M.settings.last_version) M (with_version (marker bucket M.next_version name t) M) (omega arith)

  on_names_rises : (t : ℕ) (bucket : Bucket) (names : List (List ℕ)) (M : State C) → M.next_version ≤ (pass_names t bucket names M).next_version
  on_names_rises t bucket [] M = omega arith
  on_names_rises t bucket (name ∷ names) M =
      let N = pass_on t bucket.num name (rule_for bucket name) M in
      let first = on_name_rises t bucket.num name (rule_for bucket name) M in
      let rest = on_names_rises t bucket names N in
      omega (arith, first, rest)

  pub each_rises : (t : ℕ) (buckets : List Bucket) (M : State C) → M.next_version ≤ (pass_each t buckets M).next_version
  each_rises t [] M = omega arith
  each_rises t (b ∷ rest) M =
      let N = pass_names t b (names_in (rows M b.num)) M in
      let first = on_names_rises t b (names_in (rows M b.num)) M in
      let later = each_rises t rest N in
      omega (arith, first, later)

  pub pass_sound : (t : ℕ) (M : State C) → AreVersions M.buckets M.next_version M.versions → AreVersions M.buckets (pass t M).next_version (pass t M).versions
  pass_sound t M sound = each_sound M.buckets t M.buckets M (all_among M.buckets) sound
