-- What a pass changes in a bucket.
use Rattle.std.specs.Prelude.{◌≡◌, ℕ, Bool, not, ◌||◌, ◌==◌, List, [], ◌∷◌, ◌++◌, Option, None, Some, if◌then◌else◌, fold, length}
use Rattle.b2_types.specs.declared.bucket.Bucket.{Bucket}
use Rattle.b2_types.specs.declared.bucket.Rule.{Rule}
use Rattle.b2_types.specs.declared.version.VersionOf.{VersionOf}
use Rattle.b2_model.specs.State.{State}
use Rattle.b2_model.specs.Rows.{rows}
use Rattle.b2_model.specs.Pass.{names_in}
use Rattle.lifecycle_pass.specs.declared.plans.Plan.{Plan}
use Rattle.lifecycle_pass.specs.Plans.{IsPlan}
use Rattle.lifecycle_pass.specs.Names.{after_plan}
use Rattle.lifecycle_pass.specs.Buckets.{ArePlans}
use Rattle.bucket_pass.specs.declared.walk.NamePlan.{NamePlan}

-- a plan by the rule for these versions of a name, newest first; without a rule there is none
abbrev pub IsPlanFor : {C : Type 0} → ℕ → Option Rule → Bool → List (VersionOf C) → Option Plan → Type 0
IsPlanFor t None room versions None = Unit {0}
IsPlanFor t None room versions (Some plan) = ⊥
IsPlanFor t (Some rule) room versions None = ⊥
IsPlanFor t (Some rule) room versions (Some plan) = IsPlan t rule room versions plan

-- the plan hides or removes something
abbrev pub does : Plan → Bool
does plan = plan.hide || not (length plan.cancels == 0) || not (length plan.drops == 0)

-- the plan of a name, where it does something
abbrev pub change : List ℕ → Option Plan → List NamePlan
change name None = []
change name (Some plan) = if does plan then record { name = name; plan = plan } ∷ [] else []

-- those of the names whose plans do something
abbrev pub changed : List (List ℕ) → List (Option Plan) → List NamePlan
changed [] plans = []
changed (name ∷ names) [] = []
changed (name ∷ names) (plan ∷ plans) = change name plan ++ changed names plans

-- all names of the bucket have their plans, and these are the plans that do something
pub record AreChanges {C : Type 0} (t : ℕ) (bucket : Bucket) (M : State C) (next : ℕ) (changes : List NamePlan) : Type 0 where
  pub plans : List (Option Plan)
  pub drawn : ArePlans t bucket M next (names_in (rows M bucket.num)) plans
  pub kept : changes ≡ changed (names_in (rows M bucket.num)) plans

-- the state after the changes
abbrev pub after_changes : {C : Type 0} → ℕ → ℕ → List NamePlan → State C → State C
after_changes t bucket changes M = fold (λ N c. after_plan t bucket c.name c.plan N) M changes
