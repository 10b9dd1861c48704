-- The pass on a bucket, from what stood before it.
use Rattle.std.proofs.Common.{◌≡◌, ◌≢◌, ℕ, ◌+◌, Bool, true, false, not, cond, nat_le, List, [], ◌∷◌, Option, Some, None, All, bytes_eq, if◌then◌else◌, refl, sym, ap, subst, ◌∙◌, arith}
use Rattle.std.specs.Prelude.{filter}
use Rattle.std.proofs.lemmas.Bool.{false≢true, not-true}
use Rattle.std.proofs.lemmas.Slice.Eq.{bytes_eq-Decides}
use Rattle.std.proofs.lemmas.List.Elements.{All-head, All-tail, All-weaker, All-filter, filter_passes}
use Rattle.b2_types.specs.declared.bucket.Bucket.{Bucket}
use Rattle.b2_types.specs.declared.bucket.Rule.{Rule}
use Rattle.b2_types.specs.declared.version.VersionOf.{VersionOf}
use Rattle.b2_model.specs.State.{State}
use Rattle.b2_model.specs.Rows.{rows}
use Rattle.b2_model.specs.Version.{marker, with_version}
use Rattle.b2_model.specs.Pass.{rule_for, names_in, pass_on, pass_names}
use Rattle.lifecycle_pass.specs.declared.plans.Plan.{Plan}
use Rattle.lifecycle_pass.specs.Plans.{IsPlan}
use Rattle.lifecycle_pass.specs.Names.{AreNumbered, rows_of}
use Rattle.lifecycle_pass.specs.Buckets.{IsPlanBy, next_after, ArePlans, after_one, after_plans}
use Rattle.lifecycle_pass.proofs.OtherNames.{both, due, numbers_stay}
use Rattle.lifecycle_pass.proofs.PlanPass.{carried_out}
use Rattle.lifecycle_pass.proofs.SortedRows.{seen_still}

-- ---- names once each

abbrev AreDistinct : List (List ℕ) → Type 0
AreDistinct [] = Unit {0}
AreDistinct (name ∷ names) = All (λ n. n ≢ name) names × AreDistinct names

distinct_filter : (p : List ℕ → Bool) (names : List (List ℕ)) → AreDistinct names → AreDistinct (filter p names)
distinct_filter p [] distinct = tt
distinct_filter p (name ∷ names) distinct = by_case (p name) (distinct_filter p names distinct.1)
  where
    by_case : (b : Bool) → AreDistinct (filter p names) → AreDistinct (cond b (name ∷ filter p names) (filter p names))
    by_case true rest = (All-filter p (λ n. n ≢ name) names distinct.0, rest)
    by_case false rest = rest

other_name : (name n : List ℕ) → not (bytes_eq n name) ≡ true → n ≢ name
other_name name n other same = false≢true (sym (not-true (bytes_eq n name) other) ∙ (bytes_eq-Decides n name).1 same)

module _ {C : Type 0} where
  names_distinct : (vs : List (VersionOf C)) → AreDistinct (names_in vs)
  names_distinct [] = tt
  names_distinct (v ∷ vs) =
      let p : List ℕ → Bool = λ n. not (bytes_eq n v.name) in
      (All-weaker (λ n. p n ≡ true) (λ n. n ≢ v.name) (λ n other. other_name v.name n other) (filter p (names_in vs)) (filter_passes p (names_in vs)), distinct_filter p (names_in vs) (names_distinct vs))

  -- ---- one name

  if_last : (b : Bool) (M N : State C) → N.settings ≡ M.settings → (if b then N else M).settings ≡ M.settings
  if_last true M N same = same
  if_last false M N same = refl

  same_settings : (t bucket : ℕ) (name : List ℕ) (rule : Option Rule) (M : State C) → (pass_on t bucket name rule M).settings ≡ M.settings
  same_settings t bucket name None M = refl
  same_settings t bucket name (Some rule) M = if_last (due bucket name t rule M) M (with_version (marker bucket M.next_version name t) M) refl

  next_one : (t bucket : ℕ) (name : List ℕ) (plan : Option Plan) (N : State C) → (after_one t bucket name plan N).next_version ≡ next_after plan N.next_version
  next_one t bucket name None N = refl
  next_one t bucket name (Some plan) N = by_case plan.hide
    where
      by_case : (b : Bool) → (if b then with_version (marker bucket N.next_version name t) N else N).next_version ≡ (if b then N.next_version + 1 else N.next_version)
      by_case true = omega arith
      by_case false = refl

  module _ (t bucket : ℕ) (name : List ℕ) (M N : State C) (next : ℕ) (numbered : AreNumbered N) (last : N.settings ≡ M.settings) (at : N.next_version ≡ next) (seen : rows_of N bucket name ≡ rows_of M bucket name) where
    one_step : (rule : Option Rule) (plan : Option Plan) → IsPlanBy t bucket M next name rule plan → pass_on t bucket name rule N ≡ after_one t bucket name plan N
    one_step None None is = refl
    one_step None (Some plan) is = absurd is
    one_step (Some rule) None is = absurd is
    one_step (Some rule) (Some plan) is =
        let room : nat_le next M.settings.last_version ≡ nat_le N.next_version N.settings.last_version = ap (λ n. nat_le n M.settings.last_version) (sym at) ∙ ap (λ s. nat_le N.next_version s.last_version) (sym last) in
        carried_out t bucket name rule N plan numbered
        (subst (λ r. IsPlan t rule r (rows_of N bucket name) plan) room (subst (λ vs. IsPlan t rule (nat_le next M.settings.last_version) vs plan) (sym seen) is))

  -- ---- name by name

  walk : (t : ℕ) (bucket : Bucket) (M N : State C) (next : ℕ) (names : List (List ℕ)) (plans : List (Option Plan)) → AreNumbered N → N.settings ≡ M.settings → N.next_version ≡ next
      → All (λ n. rows_of N bucket.num n ≡ rows_of M bucket.num n) names → AreDistinct names → ArePlans t bucket M next names plans
      → pass_names t bucket names N ≡ after_plans t bucket.num names plans N
  walk t bucket M N next [] plans numbered last at seen distinct are = refl
  walk t bucket M N next (name ∷ names) [] numbered last at seen distinct are = absurd are
  walk t bucket M N next (name ∷ names) (plan ∷ plans) numbered last at seen distinct are =
      let b = bucket.num in
      let rule = rule_for bucket name in
      let P = pass_on t b name rule N in
      let Same : State C → List ℕ → Type 0 = λ S n. rows_of S b n ≡ rows_of M b n in
      let one = one_step t b name M N next numbered last at (All-head (Same N) name names seen) rule plan are.0 in
      let after : P.next_version ≡ next_after plan next = ap (λ (S : State C). S.next_version) one ∙ next_one t b name plan N ∙ ap (next_after plan) at in
      let still : All (Same P) names = All-weaker (λ n. Same N n × (n ≢ name)) (Same P) (λ n both. seen_still t b n name rule N numbered both.1 ∙ both.0) names (both (Same N) (λ n. n ≢ name) names (All-tail (Same N) name names seen) distinct.0) in
      walk t bucket M P (next_after plan next) names plans (numbers_stay t b name rule N numbered) (same_settings t b name rule N ∙ last) after still distinct.1 are.1
      ∙ ap (after_plans t b names plans) one

  pub whole_bucket : (t : ℕ) (bucket : Bucket) (M : State C) (plans : List (Option Plan)) → AreNumbered M → ArePlans t bucket M M.next_version (names_in (rows M bucket.num)) plans
      → pass_names t bucket (names_in (rows M bucket.num)) M ≡ after_plans t bucket.num (names_in (rows M bucket.num)) plans M
  whole_bucket t bucket M plans numbered are =
      let names = names_in (rows M bucket.num) in
      walk t bucket M M M.next_version names plans numbered refl refl (λ k d within. refl) (names_distinct (rows M bucket.num)) are
