-- How far a walk over the versions of a bucket has come.
use Rattle.std.specs.Prelude.{◌≡◌, ℕ, Bool, true, false, not, nat_le, List, [], ◌∷◌, ◌++◌, Option, None, Some, map, filter, bytes_eq}
use Rattle.std.specs.List.{AllByRecursion}
use Rattle.std.specs.Ordering.{is_le, nat_cmp}
use Rattle.std.specs.Cmp.Lexicographic.{slice_cmp}
use Rattle.b2_base.specs.declared.extent.Extent.{Extent}
use Rattle.b2_types.specs.declared.bucket.Bucket.{Bucket}
use Rattle.b2_types.specs.declared.version.VersionOf.{VersionOf}
use Rattle.b2_model.specs.Pass.{names_in, rule_for}
use Rattle.lifecycle_pass.specs.declared.plans.Face.{Face}
use Rattle.lifecycle_pass.specs.declared.plans.Plan.{Plan}
use Rattle.lifecycle_pass.specs.Plans.{face_of}
use Rattle.lifecycle_pass.specs.Buckets.{next_after}
use Rattle.bucket_pass.specs.declared.walk.NamePlan.{NamePlan}
use Rattle.bucket_pass.specs.Changes.{IsPlanFor, changed}

abbrev pub V : Type 0
V = VersionOf Extent

-- no name before that of an earlier version
abbrev pub AreByName : List V → Type 0
AreByName [] = Unit {0}
AreByName (v ∷ vs) = AllByRecursion (λ w. is_le (slice_cmp nat_cmp v.name w.name) ≡ true) vs × AreByName vs

-- plans for these names one by one, from these versions, where this number is the next
abbrev pub ArePlansFor : ℕ → Bucket → ℕ → ℕ → List V → List (List ℕ) → List (Option Plan) → Type 0
ArePlansFor t bucket last next vs [] plans = plans ≡ []
ArePlansFor t bucket last next vs (name ∷ names) [] = ⊥
ArePlansFor t bucket last next vs (name ∷ names) (plan ∷ plans) =
    IsPlanFor t (rule_for bucket name) (nat_le next last) (filter (λ v. bytes_eq v.name name) vs) plan
    × ArePlansFor t bucket last (next_after plan next) vs names plans

-- these changes are what a pass does to the versions, where this number is the next
pub record IsPlanned (t : ℕ) (bucket : Bucket) (last next : ℕ) (vs : List V) (changes : List NamePlan) : Type 0 where
  pub plans : List (Option Plan)
  pub drawn : ArePlansFor t bucket last next vs (names_in vs) plans
  pub kept : changes ≡ changed (names_in vs) plans

-- the versions are those of the name, if one is being read
abbrev pub AreOfName : Option (List ℕ) → List V → Type 0
AreOfName None vs = vs ≡ []
AreOfName (Some name) [] = ⊥
AreOfName (Some name) (v ∷ vs) = (v.name ≡ name) × AllByRecursion (λ w. w.name ≡ name) vs

-- none of the rest is of the name that is being read
abbrev pub IsPast : Option (List ℕ) → List V → Type 0
IsPast None rest = Unit {0}
IsPast (Some name) rest = AllByRecursion (λ v. bytes_eq v.name name ≡ false) rest

-- another name is being read
abbrev pub is_past : Option (List ℕ) → List ℕ → Bool
is_past None name = false
is_past (Some other) name = not (bytes_eq name other)

-- no other name is being read
abbrev pub MayHave : Option (List ℕ) → List ℕ → Type 0
MayHave None name = Unit {0}
MayHave (Some other) name = name ≡ other

-- Of all versions the rest is left. Those of the name that is being read look so, and the changes of the rest with
-- them, after the changes so far, are the changes of all.
pub record Stands (t : ℕ) (bucket : Bucket) (last first : ℕ) (all rest : List V) (name : Option (List ℕ)) (faces : List Face) (next : ℕ) (changes : List NamePlan) : Type 0 where
  pub block : List V
  pub looks : map (face_of t) block ≡ faces
  pub named : AreOfName name block
  pub order : AreByName (block ++ rest)
  pub onward : (more : List NamePlan) → IsPlanned t bucket last next (block ++ rest) more → IsPlanned t bucket last first all (changes ++ more)
