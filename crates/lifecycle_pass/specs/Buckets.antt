-- What a pass does to a bucket, name by name.
use Rattle.std.specs.Prelude.{◌≡◌, ℕ, ◌+◌, nat_le, List, [], ◌∷◌, Option, None, Some, if◌then◌else◌}
use Rattle.b2_types.specs.declared.bucket.Bucket.{Bucket}
use Rattle.b2_types.specs.declared.bucket.Rule.{Rule}
use Rattle.b2_model.specs.State.{State}
use Rattle.b2_model.specs.Pass.{rule_for}
use Rattle.lifecycle_pass.specs.declared.plans.Plan.{Plan}
use Rattle.lifecycle_pass.specs.Plans.{IsPlan}
use Rattle.lifecycle_pass.specs.Names.{rows_of, after_plan}

-- a plan of the name by this rule, where this number is the next; without a rule there is none
abbrev pub IsPlanBy : {C : Type 0} → ℕ → ℕ → State C → ℕ → List ℕ → Option Rule → Option Plan → Type 0
IsPlanBy t bucket M next name None None = Unit {0}
IsPlanBy t bucket M next name None (Some plan) = ⊥
IsPlanBy t bucket M next name (Some rule) None = ⊥
IsPlanBy t bucket M next name (Some rule) (Some plan) = IsPlan t rule (nat_le next M.settings.last_version) (rows_of M bucket name) plan

-- the next number after a plan, which takes one where it hides
abbrev pub next_after : Option Plan → ℕ → ℕ
next_after None next = next
next_after (Some plan) next = if plan.hide then next + 1 else next

-- plans for these names one by one, all of them from what stood before the first
abbrev pub ArePlans : {C : Type 0} → ℕ → Bucket → State C → ℕ → List (List ℕ) → List (Option Plan) → Type 0
ArePlans t bucket M next [] plans = plans ≡ []
ArePlans t bucket M next (name ∷ names) [] = ⊥
ArePlans t bucket M next (name ∷ names) (plan ∷ plans) =
    IsPlanBy t bucket.num M next name (rule_for bucket name) plan × ArePlans t bucket M (next_after plan next) names plans

-- the state after one plan, or after none
abbrev pub after_one : {C : Type 0} → ℕ → ℕ → List ℕ → Option Plan → State C → State C
after_one t bucket name None M = M
after_one t bucket name (Some plan) M = after_plan t bucket name plan M

-- the state after the plans
abbrev pub after_plans : {C : Type 0} → ℕ → ℕ → List (List ℕ) → List (Option Plan) → State C → State C
after_plans t bucket [] plans M = M
after_plans t bucket (name ∷ names) [] M = M
after_plans t bucket (name ∷ names) (plan ∷ plans) M = after_plans t bucket names plans (after_one t bucket name plan M)
