-- The changes are what the machine's pass does.
use Rattle.std.proofs.Common.{◌≡◌, ℕ, Bool, true, false, not, nat_le, ◌==◌, ◌||◌, ◌&&◌, ◌+◌, arith, List, [], ◌∷◌, ◌++◌, Option, Some, None, filter, bytes_eq, length, subst, sym, ap, ◌∙◌, refl}
use Rattle.std.specs.Prelude.{if◌then◌else◌}
use Rattle.std.proofs.lemmas.Bool.{false≢true, ne_eqb}
use Rattle.b2_base.specs.declared.extent.Extent.{Extent}
use Rattle.b2_types.specs.declared.bucket.Bucket.{Bucket}
use Rattle.b2_types.specs.declared.bucket.Rule.{Rule}
use Rattle.b2_model.specs.State.{State}
use Rattle.b2_model.specs.Rows.{rows}
use Rattle.b2_model.specs.Pass.{names_in, pass_names, rule_for}
use Rattle.lifecycle_pass.specs.declared.plans.Plan.{Plan}
use Rattle.lifecycle_pass.specs.Plans.{IsPlan}
use Rattle.lifecycle_pass.specs.Names.{AreNumbered, after_plan}
use Rattle.lifecycle_pass.specs.Buckets.{ArePlans, IsPlanBy, after_one, after_plans, next_after}
use Rattle.lifecycle_pass.proofs.WholeBucket.{whole_bucket}
use Rattle.bucket_pass.specs.declared.walk.NamePlan.{NamePlan}
use Rattle.bucket_pass.specs.Changes.{AreChanges, IsPlanFor, after_changes, change, changed, does}
use Rattle.bucket_pass.specs.Walked.{V, ArePlansFor, IsPlanned}

module _ (t : ℕ) (bucket : Bucket) (M : State Extent) (last : ℕ) (vs : List V) (last_is : M.settings.last_version ≡ last) (rows_are : vs ≡ rows M bucket.num) where
  one_plan : (next : ℕ) (name : List ℕ) (rule : Option Rule) (plan : Option Plan) → IsPlanFor t rule (nat_le next last) (filter (λ v. bytes_eq v.name name) vs) plan → IsPlanBy t bucket.num M next name rule plan
  one_plan next name None None is = is
  one_plan next name None (Some plan) is = is
  one_plan next name (Some rule) None is = is
  one_plan next name (Some rule) (Some plan) is =
      subst (λ l. IsPlan t rule (nat_le next l) (filter (λ v. bytes_eq v.name name) (rows M bucket.num)) plan) (sym last_is)
      (subst (λ ws. IsPlan t rule (nat_le next last) (filter (λ v. bytes_eq v.name name) ws) plan) rows_are is)

  all_plans : (next : ℕ) (names : List (List ℕ)) (plans : List (Option Plan)) → ArePlansFor t bucket last next vs names plans → ArePlans t bucket M next names plans
  all_plans next [] plans are = are
  all_plans next (name ∷ names) [] are = are
  all_plans next (name ∷ names) (plan ∷ plans) are = (one_plan next name (rule_for bucket name) plan are.0, all_plans (next_after plan next) names plans are.1)

  pub are_changes : (next : ℕ) (changes : List NamePlan) → IsPlanned t bucket last next vs changes → AreChanges t bucket M next changes
  are_changes next changes p = record {
    plans = p.plans;
    drawn = subst (λ ws. ArePlans t bucket M next (names_in ws) p.plans) rows_are (all_plans next (names_in vs) p.plans p.drawn);
    kept = subst (λ ws. changes ≡ changed (names_in ws) p.plans) rows_are p.kept;
  }

-- ---- a plan that does nothing

no_items : (xs : List ℕ) → not (length xs == 0) ≡ false → xs ≡ []
no_items [] is = refl
no_items (x ∷ xs) is = absurd (let some : (length (x ∷ xs) == 0) ≡ false = ne_eqb (length (x ∷ xs)) 0 (λ e. omega arith) in false≢true (sym is ∙ ap not some))

neither : (a b : Bool) → (a || b) ≡ false → (a ≡ false) × (b ≡ false)
neither true b is = absurd (false≢true (sym is))
neither false b is = (refl, is)

abbrev idle : Plan
idle = record { cancels = []; hide = false; drops = [] }

is_idle : (plan : Plan) → does plan ≡ false → plan ≡ idle
is_idle plan is =
    let outer = neither (plan.hide || not (length plan.cancels == 0)) (not (length plan.drops == 0)) is in
    let inner = neither plan.hide (not (length plan.cancels == 0)) outer.0 in
    let same : (let p : Plan = record { cancels = plan.cancels; hide = plan.hide; drops = plan.drops } in p) ≡ idle = rw (inner.0, no_items plan.cancels inner.1, no_items plan.drops outer.1) refl in
    same

none_goes : (b : ℕ) (vs : List V) → filter (λ v. not (v.bucket == b && false)) vs ≡ vs
none_goes b [] = refl
none_goes b (v ∷ vs) = by_case (v.bucket == b) (none_goes b vs)
  where
    by_case : (c : Bool) → filter (λ v. not (v.bucket == b && false)) vs ≡ vs → (if not (c && false) then v ∷ filter (λ v. not (v.bucket == b && false)) vs else filter (λ v. not (v.bucket == b && false)) vs) ≡ v ∷ vs
    by_case true rest = ap (λ l. v ∷ l) rest
    by_case false rest = ap (λ l. v ∷ l) rest

nothing : (t b : ℕ) (name : List ℕ) (M : State Extent) → after_plan t b name idle M ≡ M
nothing t b name M = ap (λ ws. let N : State Extent = record M { versions = ws } in N) (none_goes b M.versions)

-- ---- the changes one by one

after_change : (t b : ℕ) (name : List ℕ) (plan : Option Plan) (more : List NamePlan) (M : State Extent)
    → after_changes t b more (after_one t b name plan M) ≡ after_changes t b (change name plan ++ more) M
after_change t b name None more M = refl
after_change t b name (Some plan) more M = by_case (does plan) refl
  where
    by_case : (d : Bool) → does plan ≡ d → after_changes t b more (after_plan t b name plan M) ≡ after_changes t b ((if d then record { name = name; plan = plan } ∷ [] else []) ++ more) M
    by_case true is = refl
    by_case false is = ap (λ N. after_changes t b more N) (ap (λ p. after_plan t b name p M) (is_idle plan is) ∙ nothing t b name M)

after_all : (t : ℕ) (bucket : Bucket) (N : State Extent) (next : ℕ) (names : List (List ℕ)) (plans : List (Option Plan)) (M : State Extent) → ArePlans t bucket N next names plans
    → after_plans t bucket.num names plans M ≡ after_changes t bucket.num (changed names plans) M
after_all t bucket N next [] plans M are = refl
after_all t bucket N next (name ∷ names) [] M are = absurd are
after_all t bucket N next (name ∷ names) (plan ∷ plans) M are =
    after_all t bucket N (next_after plan next) names plans (after_one t bucket.num name plan M) are.1
    ∙ after_change t bucket.num name plan (changed names plans) M

pub whole_pass : (t : ℕ) (bucket : Bucket) (M : State Extent) (next : ℕ) (changes : List NamePlan) → AreNumbered M → M.next_version ≡ next → AreChanges t bucket M next changes
    → pass_names t bucket (names_in (rows M bucket.num)) M ≡ after_changes t bucket.num changes M
whole_pass t bucket M next changes numbered at are =
    let names = names_in (rows M bucket.num) in
    whole_bucket t bucket M are.plans numbered (subst (λ n. ArePlans t bucket M n names are.plans) (sym at) are.drawn)
    ∙ after_all t bucket M next names are.plans M are.drawn
    ∙ ap (λ l. after_changes t bucket.num l M) (sym are.kept)
