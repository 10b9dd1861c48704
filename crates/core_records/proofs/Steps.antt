-- The steps of a pass, one after the other.
use Rattle.std.proofs.Common.{◌≡◌, ℕ, ◌+◌, ◌<◌, ◌≤◌, ◌==◌, ◌&&◌, ◌||◌, nat_le, Bool, true, false, not, IsSome, Option, Some, None, List, [], ◌∷◌, ◌++◌, get_or, length, filter, subst, sym, ap, ◌∙◌, refl, arith}
use Rattle.std.specs.Prelude.{if◌then◌else◌}
use Rattle.std.specs.List.{list_any}
use Rattle.std.proofs.lemmas.Bool.{and_parts, eqb-true, false≢true}
use Rattle.std.proofs.lemmas.List.Elements.{All-contains}
use Rattle.b2_types.specs.declared.bucket.Bucket.{Bucket}
use Rattle.b2_types.specs.declared.bucket.Rule.{Rule}
use Rattle.b2_types.specs.declared.version.VersionOf.{VersionOf}
use Rattle.b2_model.specs.Pass.{is_due, names_in, rule_for}
use Rattle.b2_model.specs.Rows.{rows}
use Rattle.b2_model.specs.State.{State, bucket_at}
use Rattle.b2_model.specs.Version.{marker, with_version, without_version}
use Rattle.sound_states.specs.Sound.{IsGiven, IsSound}
use Rattle.sound_states.proofs.Ascending.{found_any}
use Rattle.sound_states.proofs.Passed.{all_among}
use Rattle.sound_states.proofs.Tests.{at_most, both_hold}
use Rattle.index_rows.proofs.Places.{one_number}
use Rattle.lifecycle_pass.specs.declared.plans.Plan.{Plan}
use Rattle.lifecycle_pass.specs.Buckets.{ArePlans, IsPlanBy, next_after}
use Rattle.lifecycle_pass.specs.Names.{AreNumbered, after_plan, rows_of}
use Rattle.lifecycle_pass.specs.Plans.{files}
use Rattle.lifecycle_pass.proofs.PlanPass.{filter_twice}
use Rattle.bucket_pass.specs.Changes.{AreChanges, change, changed, does}
use Rattle.bucket_pass.specs.declared.walk.NamePlan.{NamePlan}
use Rattle.contents_agree.specs.ContentsOf.{contents_of}
use Rattle.core_records.specs.Steps.{HaveRoom, without_numbers}
use Rattle.core_records.proofs.Conserve.{hidden_holds}

-- ---- versions that go by their numbers

any-append : (p : ℕ → Bool) (xs ys : List ℕ) → list_any p (xs ++ ys) ≡ (list_any p xs || list_any p ys)
any-append p [] ys = refl
any-append p (x ∷ xs) ys = by_case (p x) (any-append p xs ys)
  where
    by_case : (b : Bool) → list_any p (xs ++ ys) ≡ (list_any p xs || list_any p ys) → (b || list_any p (xs ++ ys)) ≡ ((b || list_any p xs) || list_any p ys)
    by_case true rest = refl
    by_case false rest = rest

both_not : (x y z : Bool) → (not (x && y) && not (x && z)) ≡ not (x && (y || z))
both_not true true z = refl
both_not true false z = refl
both_not false y z = refl

or_none : (b : Bool) → (b || false) ≡ b
or_none true = refl
or_none false = refl

module _ {C : Type 0} (bucket : ℕ) where
  abbrev stays : List ℕ → VersionOf C → Bool
  stays nums v = not (v.bucket == bucket && list_any (λ n. v.num == n) nums)

  both_stay : (xs ys : List ℕ) (v : VersionOf C) → (stays xs v && stays ys v) ≡ stays (xs ++ ys) v
  both_stay xs ys v =
      both_not (v.bucket == bucket) (list_any (λ n. v.num == n) xs) (list_any (λ n. v.num == n) ys)
      ∙ ap (λ b. not (v.bucket == bucket && b)) (sym (any-append (λ n. v.num == n) xs ys))

  pub without_both : (xs ys : List ℕ) (M : State C) → without_numbers bucket ys (without_numbers bucket xs M) ≡ without_numbers bucket (xs ++ ys) M
  without_both xs ys M =
      let vs = M.versions in
      let one : filter (stays ys) (filter (stays xs) vs) ≡ filter (λ v. stays xs v && stays ys v) vs = filter_twice (stays xs) (stays ys) vs in
      let two : filter (λ v. stays xs v && stays ys v) vs ≡ filter (stays (xs ++ ys)) vs = ap (λ (p : VersionOf C → Bool). filter p vs) (λ i v. both_stay xs ys v i) in
      ap (λ (ws : List (VersionOf C)). record M { versions = ws }) (one ∙ two)

  without_one : (n : ℕ) (M : State C) → without_version (record { bucket = bucket; num = n }) M ≡ without_numbers bucket (n ∷ []) M
  without_one n M =
      let same : (v : VersionOf C) → not (v.bucket == bucket && v.num == n) ≡ stays (n ∷ []) v = λ v. ap (λ b. not (v.bucket == bucket && b)) (sym (or_none (v.num == n))) in
      ap (λ (p : VersionOf C → Bool). record M { versions = filter p M.versions }) (λ i v. same v i)

  pub without_more : (ns : List ℕ) (n : ℕ) (M : State C) → without_version (record { bucket = bucket; num = n }) (without_numbers bucket ns M) ≡ without_numbers bucket (ns ++ n ∷ []) M
  without_more ns n M = without_one n (without_numbers bucket ns M) ∙ without_both ns (n ∷ []) M

  all_stay : (vs : List (VersionOf C)) → filter (stays []) vs ≡ vs
  all_stay [] = refl
  all_stay (v ∷ vs) = rw (none (v.bucket == bucket)) (ap (λ l. v ∷ l) (all_stay vs))
    where
      none : (b : Bool) → not (b && false) ≡ true
      none true = refl
      none false = refl

  pub without_none : (M : State C) → without_numbers bucket [] M ≡ M
  without_none M = ap (λ (ws : List (VersionOf C)). record M { versions = ws }) (all_stay M.versions)

-- ---- a name that is hidden

module _ {C : Type 0} (t bucket : ℕ) (name : List ℕ) where
  pub maybe_holds : (hide : Bool) (M : State C) → contents_of (if hide then with_version (marker bucket M.next_version name t) M else M) ≡ contents_of M
  maybe_holds true M = hidden_holds M t bucket M.next_version name
  maybe_holds false M = refl

  pub same_buckets : (plan : Plan) (M : State C) → (after_plan t bucket name plan M).buckets ≡ M.buckets
  same_buckets plan M = by_case plan.hide
    where
      by_case : (b : Bool) → (if b then with_version (marker bucket M.next_version name t) M else M).buckets ≡ M.buckets
      by_case true = refl
      by_case false = refl

  pub next_number : (plan : Plan) (M : State C) → (after_plan t bucket name plan M).next_version ≡ (if plan.hide then M.next_version + 1 else M.next_version)
  next_number plan M = by_case plan.hide
    where
      by_case : (b : Bool) → (if b then with_version (marker bucket M.next_version name t) M else M).next_version ≡ (if b then M.next_version + 1 else M.next_version)
      by_case true = omega arith
      by_case false = refl

-- ---- there is room for what a plan hides

hides_within : (last next : ℕ) (due hide : Bool) → hide ≡ (due && nat_le next last) → hide ≡ true → next ≤ last
hides_within last next due hide is true_hide = at_most next last (both_hold due (nat_le next last) (sym is ∙ true_hide)).1

idle_hides : (plan : Plan) → does plan ≡ false → plan.hide ≡ false
idle_hides plan is = by_case plan.hide (not (length plan.cancels == 0)) (not (length plan.drops == 0)) is
  where
    by_case : (a b c : Bool) → (a || b || c) ≡ false → a ≡ false
    by_case true b c is = absurd (false≢true (sym is))
    by_case false b c is = refl

module _ {C : Type 0} (t : ℕ) (bucket : Bucket) (M : State C) (most : ℕ) (low : M.settings.last_version ≤ most) where
  one_change : (name : List ℕ) (plan : Plan) (rule : Option Rule) (next : ℕ) (rest : List NamePlan) → IsPlanBy t bucket.num M next name rule (Some plan)
      → HaveRoom most (next_after (Some plan) next) rest → HaveRoom most next (change name (Some plan) ++ rest)
  one_change name plan None next rest drawn more = absurd drawn
  one_change name plan (Some rule) next rest drawn more = by_case (does plan) refl
    where
      within : plan.hide ≡ true → next ≤ most
      within hides =
          let lower = hides_within M.settings.last_version next (is_due t rule (files (rows_of M bucket.num name))) plan.hide drawn.hide hides in
          omega (arith, lower, low)

      by_case : (b : Bool) → does plan ≡ b → HaveRoom most next ((if b then record { name = name; plan = plan } ∷ [] else []) ++ rest)
      by_case true is = (within, more)
      by_case false is = subst (λ b. HaveRoom most (if b then next + 1 else next) rest) (idle_hides plan is) more

  room_for : (names : List (List ℕ)) (plans : List (Option Plan)) (next : ℕ) → ArePlans t bucket M next names plans → HaveRoom most next (changed names plans)
  room_for [] plans next drawn = tt
  room_for (name ∷ names) [] next drawn = absurd drawn
  room_for (name ∷ names) (None ∷ plans) next drawn = room_for names plans next drawn.1
  room_for (name ∷ names) (Some plan ∷ plans) next drawn =
      one_change name plan (rule_for bucket name) next (changed names plans) drawn.0 (room_for names plans (next_after (Some plan) next) drawn.1)

  pub have_room : (next : ℕ) (changes : List NamePlan) → AreChanges t bucket M next changes → HaveRoom most next changes
  have_room next changes are = subst (HaveRoom most next) (sym are.kept) (room_for (names_in (rows M bucket.num)) are.plans next are.drawn)

-- ---- a sound state

module _ {C : Type 0} (M : State C) (sound : IsSound M) where
  pub numbered : AreNumbered M
  numbered = record {
    names = λ v w a b same. ap (λ (u : VersionOf C). u.name) (one_number M.versions v w sound.versions.order a b (eqb-true v.num w.num (and_parts (v.bucket == w.bucket) (v.num == w.num) same).1));
    free = λ v a. (All-contains (λ (u : VersionOf C). IsGiven M.next_version u.num) M.versions v sound.versions.given a).1;
  }

  pub it_stands : (at : ℕ) (b : Bucket) → at < length M.buckets → b ≡ get_or M.buckets at b → IsSome (bucket_at M b.num)
  it_stands at b within is =
      found_any (λ (a : Bucket). a.num == b.num) M.buckets
      ∙ subst (λ (x : Bucket). list_any (λ (a : Bucket). a.num == x.num) M.buckets ≡ true) (sym is) (all_among M.buckets at b within)
