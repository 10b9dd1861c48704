-- The lifecycle pass keeps what is locked.
use Rattle.std.proofs.Common.{◌≡◌, ℕ, ◌<◌, ◌≤◌, ◌==◌, ◌/◌, nat_le, nat_lt, Bool, true, false, not, ◌&&◌, ◌||◌, List, [], ◌∷◌, ◌++◌, All, Option, Some, None, bytes_eq, filter, fold, if◌then◌else◌, refl, sym, ap, ◌∙◌, arith}
use Rattle.std.specs.List.{list_any}
use Rattle.std.proofs.lemmas.Bool.{false≢true}
use Rattle.std.proofs.lemmas.List.Elements.{All-nil, All-cons, All-head, All-tail, All-append, All-filter}
use Rattle.b2_types.specs.declared.bucket.Bucket.{Bucket}
use Rattle.b2_types.specs.declared.bucket.Rule.{Rule}
use Rattle.b2_types.specs.declared.version.VersionOf.{VersionOf}
use Rattle.b2_model.specs.Kinds.{is_hide, is_start}
use Rattle.b2_model.specs.Locks.{is_protected}
use Rattle.b2_model.specs.State.{State}
use Rattle.b2_model.specs.Rows.{is_before, put_row, listing_order, rows}
use Rattle.b2_model.specs.Version.{marker, with_version, is_it}
use Rattle.b2_model.specs.Plan.{id_of}
use Rattle.b2_model.specs.Pass.{has_aged, rule_for, is_due, goes_under, lower_drops, all_go, drops, is_same, names_in, with_due_hide, of_name, cancels, pass_on, pass_names, pass}
use Rattle.b2_model.specs.Run.{with_pass}
use Rattle.machine_laws.proofs.PassKeeps.{pass_each}
use Rattle.sound_states.proofs.Ascending.{all_from, put_all, put_any}
use Rattle.sound_states.proofs.Tests.{both_hold, is_not, equal_numbers, none_passes}
use Rattle.sound_states.proofs.Found.{none_of_all}
use Rattle.lasting_laws.specs.Locked.{Lock, IsLocked, IsInTime}
use Rattle.lasting_laws.proofs.Kept.{by_test, start_or_upload, hide_or_upload, any_stays, filter_with, locked_upload, locked_protected, Good, Keeps, it_back, not_it, apart_num}

-- ---- rows

module _ {X : Type 0} where
  if_all : (P : X → Type 0) (b : Bool) (xs ys : List X) → All P xs → All P ys → All P (if b then xs else ys)
  if_all P true xs ys first second = first
  if_all P false xs ys first second = second

module _ {C : Type 0} (P : VersionOf C → Type 0) where
  placed_all : (v : VersionOf C) (ws : List (VersionOf C)) → P v → All P ws → All P (put_row v ws)
  placed_all v [] one all = All-cons P v [] one all
  placed_all v (w ∷ ws) one all =
      if_all P (is_before v w) (v ∷ w ∷ ws) (w ∷ put_row v ws) (All-cons P v (w ∷ ws) one all)
      (All-cons P w (put_row v ws) (All-head P w ws all) (placed_all v ws one (All-tail P w ws all)))

  sorted_all : (vs sorted : List (VersionOf C)) → All P vs → All P sorted → All P (fold (λ ws v. put_row v ws) sorted vs)
  sorted_all [] sorted all done = done
  sorted_all (v ∷ vs) sorted all done = sorted_all vs (put_row v sorted) (All-tail P v vs all) (placed_all v sorted (All-head P v vs all) done)

  pub rows_all : (M : State C) (b : ℕ) → All P M.versions → All P (rows M b)
  rows_all M b all = sorted_all (filter (λ v. v.bucket == b) M.versions) [] (All-filter (λ v. v.bucket == b) P M.versions all) (All-nil P)

module _ {C : Type 0} (lock : Lock) (v : VersionOf C) where
  -- ---- what a pass removes

  -- it is not the version
  abbrev Other : VersionOf C → Type 0
  Other w = is_it (id_of v) w ≡ false

  goes_other : (t : ℕ) (rule : Rule) (above w : VersionOf C) → IsInTime lock t → Good lock v w → goes_under t rule above w ≡ true → Other w
  goes_other t rule above w before good goes =
      let bare = is_not (is_protected t w) (both_hold (has_aged t above.stamp rule.delete_days) (not (is_protected t w)) goes).1 in
      not_it lock v w good (λ locked. false≢true (sym bare ∙ locked_protected lock t w locked before))

  if_goes : (b : Bool) (w : VersionOf C) (ws : List (VersionOf C)) → (b ≡ true → Other w) → All Other ws → All Other (if b then w ∷ ws else ws)
  if_goes true w ws one rest = All-cons Other w ws (one refl) rest
  if_goes false w ws one rest = rest

  lower_other : (t : ℕ) (rule : Rule) (above : VersionOf C) (ws : List (VersionOf C)) → IsInTime lock t → All (Good lock v) ws → All Other (lower_drops t rule above ws)
  lower_other t rule above [] before good = All-nil Other
  lower_other t rule above (w ∷ ws) before good =
      if_goes (goes_under t rule above w) w (lower_drops t rule w ws) (goes_other t rule above w before (All-head (Good lock v) w ws good))
      (lower_other t rule w ws before (All-tail (Good lock v) w ws good))

  drops_other : (t : ℕ) (rule : Rule) (ws : List (VersionOf C)) → IsInTime lock t → All (Good lock v) ws → All Other (drops t rule ws)
  drops_other t rule [] before good = All-nil Other
  drops_other t rule (w ∷ ws) before good =
      if_goes (is_hide w.action && all_go t rule w ws && has_aged t w.stamp rule.delete_days) w (lower_drops t rule w ws)
      (λ goes. not_it lock v w (All-head (Good lock v) w ws good) (λ locked. hide_or_upload w.action (locked_upload lock w locked) (first_of_three (is_hide w.action) (all_go t rule w ws) (has_aged t w.stamp rule.delete_days) goes)))
      (lower_other t rule w ws before (All-tail (Good lock v) w ws good))
    where
      first_of_three : (a b c : Bool) → (a && b && c) ≡ true → a ≡ true
      first_of_three true b c is = refl
      first_of_three false b c is = is

  cancels_other : (M : State C) (t bucket : ℕ) (rule : Rule) (name : List ℕ) → All (Good lock v) M.versions → All Other (cancels M t bucket rule name)
  cancels_other M t bucket rule name good =
      let test : VersionOf C → Bool = λ w. w.bucket == bucket && bytes_eq w.name name && is_start w.action && has_aged t w.stamp rule.cancel_days in
      all_from (λ w. Good lock v w × (test w ≡ true)) Other (cancels M t bucket rule name)
      (λ w both. not_it lock v w both.0 (λ locked. start_or_upload w.action (locked_upload lock w locked) (third (w.bucket == bucket) (bytes_eq w.name name) (is_start w.action) (has_aged t w.stamp rule.cancel_days) both.1)))
      (filter_with (Good lock v) test M.versions good)
    where
      third : (a b c d : Bool) → (a && b && c && d) ≡ true → c ≡ true
      third true true true d is = refl
      third true true false d is = is
      third true false c d is = absurd (false≢true is)
      third false b c d is = absurd (false≢true is)

  -- what is not removed is the version
  same_as_none : (w : VersionOf C) (gone : List (VersionOf C)) → All Other gone → is_it (id_of v) w ≡ true → not (list_any (is_same w) gone) ≡ true
  same_as_none w gone others it = ap not (none_of_all (is_same w) gone (all_from Other (λ u. is_same w u ≡ false) gone (λ u other. apart u other) others))
    where
      apart : (u : VersionOf C) → Other u → is_same w u ≡ false
      apart u other = by_test (is_same w u) (λ same.
          let both = both_hold (w.bucket == u.bucket) (w.num == u.num) same in
          let bucket = equal_numbers w.bucket u.bucket both.0 in
          let num = equal_numbers w.num u.num both.1 in
          let is : is_it (id_of v) u ≡ true = rw (sym bucket, sym num) it in
          absurd (false≢true (sym other ∙ is))) (λ differ. differ)

  -- ---- the pass

  pub more_keeps : (x : VersionOf C) (M : State C) → v.num < x.num → Keeps lock v M → Keeps lock v (with_version x M)
  more_keeps x M above keeps =
      let given = keeps.given in
      record {
        each = put_all (λ w. w.num) (Good lock v) x M.versions (λ it. absurd (false≢true (sym (apart_num v x above) ∙ it))) keeps.each;
        there = put_any (λ w. w.num) (is_it (id_of v)) x M.versions keeps.there;
        given = omega (arith, given);
      }

  pub fewer_keeps : (p : VersionOf C → Bool) (M : State C) → All (λ w. is_it (id_of v) w ≡ true → p w ≡ true) M.versions → Keeps lock v M → Keeps lock v (record M { versions = filter p M.versions })
  fewer_keeps p M stay keeps = record {
    each = All-filter p (Good lock v) M.versions keeps.each;
    there = any_stays (is_it (id_of v)) p M.versions stay keeps.there;
    given = keeps.given;
  }

  if_keeps : (b : Bool) (M N : State C) → Keeps lock v M → Keeps lock v N → Keeps lock v (if b then N else M)
  if_keeps true M N old new = new
  if_keeps false M N old new = old

  on_name_keeps : (t bucket : ℕ) (name : List ℕ) (rule : Option Rule) (M : State C) → IsInTime lock t → Keeps lock v M → Keeps lock v (pass_on t bucket name rule M)
  on_name_keeps t bucket name None M before keeps = keeps
  on_name_keeps t bucket name (Some rule) M before keeps =
      let due = is_due t rule (of_name M bucket name) in
      let N = with_due_hide t bucket name due M in
      let hides = marker bucket M.next_version name t in
      let hidden = if_keeps (due && nat_le M.next_version M.settings.last_version) M (with_version hides M) keeps (more_keeps hides M keeps.given keeps) in
      let gone = cancels M t bucket rule name ++ drops t rule (of_name N bucket name) in
      let named = All-filter (λ w. bytes_eq w.name name && not (is_start w.action)) (Good lock v) (rows N bucket) (rows_all (Good lock v) N bucket hidden.each) in
      let others = All-append Other (cancels M t bucket rule name) (drops t rule (of_name N bucket name)) (cancels_other M t bucket rule name keeps.each) (drops_other t rule (of_name N bucket name) before named) in
      fewer_keeps (λ w. not (list_any (is_same w) gone)) N
      (all_from (Good lock v) (λ w. is_it (id_of v) w ≡ true → not (list_any (is_same w) gone) ≡ true) N.versions (λ w good it. same_as_none w gone others it) hidden.each) hidden

  on_names_keeps : (t : ℕ) (bucket : Bucket) (names : List (List ℕ)) (M : State C) → IsInTime lock t → Keeps lock v M → Keeps lock v (pass_names t bucket names M)
  on_names_keeps t bucket [] M before keeps = keeps
  on_names_keeps t bucket (name ∷ names) M before keeps =
      on_names_keeps t bucket names (pass_on t bucket.num name (rule_for bucket name) M) before (on_name_keeps t bucket.num name (rule_for bucket name) M before keeps)

  on_buckets_keeps : (t : ℕ) (buckets : List Bucket) (M : State C) → IsInTime lock t → Keeps lock v M → Keeps lock v (pass_each t buckets M)
  on_buckets_keeps t [] M before keeps = keeps
  on_buckets_keeps t (bucket ∷ buckets) M before keeps =
      on_buckets_keeps t buckets (pass_names t bucket (names_in (rows M bucket.num)) M) before (on_names_keeps t bucket (names_in (rows M bucket.num)) M before keeps)

  pub pass_keeps : (M : State C) (t : ℕ) → IsInTime lock t → Keeps lock v M → Keeps lock v (with_pass M t)
  pass_keeps M t before keeps = let passed = on_buckets_keeps t M.buckets M before keeps in record { each = passed.each; there = passed.there; given = passed.given }
