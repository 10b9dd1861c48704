-- What a pass does to one name.
use Rattle.std.specs.Prelude.{◌≡◌, ℕ, ◌&&◌, not, Bool, List, ◌∷◌, IsTrue, if◌then◌else◌, map, filter}
use Rattle.b2_types.specs.declared.bucket.Rule.{Rule}
use Rattle.b2_types.specs.declared.version.VersionOf.{VersionOf}
use Rattle.b2_model.specs.Kinds.{is_hide, is_start}
use Rattle.b2_model.specs.Locks.{is_protected}
use Rattle.b2_model.specs.Pass.{has_aged, is_due, drops}
use Rattle.lifecycle_pass.specs.declared.plans.Face.{Face}
use Rattle.lifecycle_pass.specs.declared.plans.Plan.{Plan}

-- what a pass at this moment looks at in a version
abbrev pub face_of : {C : Type 0} → ℕ → VersionOf C → Face
face_of t v = record { num = v.num; action = v.action; stamp = v.stamp; protected = is_protected t v }

abbrev pub numbers : {C : Type 0} → List (VersionOf C) → List ℕ
numbers versions = map (λ v. v.num) versions

-- the versions that are no starts
abbrev pub files : {C : Type 0} → List (VersionOf C) → List (VersionOf C)
files versions = filter (λ v. not (is_start v.action)) versions

-- a start that was begun long enough ago
abbrev pub is_stale : {C : Type 0} → ℕ → Rule → VersionOf C → Bool
is_stale t rule v = is_start v.action && has_aged t v.stamp rule.cancel_days

-- a marker of this moment
pub record IsMarker {C : Type 0} (t : ℕ) (v : VersionOf C) : Type 0 where
  pub hides : IsTrue (is_hide v.action)
  pub new : v.stamp ≡ t

-- The plan is what the machine's pass at this moment does by the rule to a name with these versions, newest first,
-- where `room` says that a number is left for a marker: the numbers of those that go, the starts first.
pub record IsPlan {C : Type 0} (t : ℕ) (rule : Rule) (room : Bool) (versions : List (VersionOf C)) (plan : Plan) : Type 0 where
  pub hide : plan.hide ≡ (is_due t rule (files versions) && room)
  pub cancels : plan.cancels ≡ numbers (filter (is_stale t rule) versions)
  -- what goes is judged with the new marker as the newest
  pub drops : (marker : VersionOf C) → IsMarker t marker
      → plan.drops ≡ numbers (drops t rule (if plan.hide then marker ∷ files versions else files versions))

-- the first that is no start looks so, and those below it
pub record IsNewest {C : Type 0} (t : ℕ) (versions : List (VersionOf C)) (top : Face) (lower : List Face) : Type 0 where
  pub version : VersionOf C
  pub below : List (VersionOf C)
  pub split : files versions ≡ version ∷ files below
  pub looks : face_of t version ≡ top
  pub look : map (face_of t) below ≡ lower
