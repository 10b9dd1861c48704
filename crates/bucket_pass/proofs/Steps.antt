-- The steps of the walk.
use Rattle.std.proofs.Common.{◌≡◌, ℕ, ◌+◌, ◌-◌, ◌^◌, ◌≤◌, ◌&&◌, min, Bool, true, false, nat_le, List, [], ◌∷◌, ◌++◌, Option, Some, None, map, subst, sym, ap, ◌∙◌, refl, arith, append_assoc}
use Rattle.std.specs.List.{AllByRecursion}
use Rattle.std.specs.Prelude.{if◌then◌else◌}
use Rattle.std.proofs.lemmas.Bool.{and_parts}
use Rattle.std.proofs.lemmas.Bool.Decides.{nat_tests}
use Rattle.std.proofs.lemmas.List.{append-nil}
use Rattle.b2_base.specs.declared.numbers.TheConstants.{LAST_VERSION}
use Rattle.b2_types.specs.declared.bucket.Rule.{Rule}
use Rattle.b2_types.specs.declared.bucket.Bucket.{Bucket}
use Rattle.b2_model.specs.Pass.{is_due, rule_for}
use Rattle.lifecycle_pass.specs.declared.plans.Face.{Face}
use Rattle.lifecycle_pass.specs.declared.plans.Plan.{Plan}
use Rattle.lifecycle_pass.specs.Plans.{face_of, files}
use Rattle.lifecycle_pass.specs.Buckets.{next_after}
use Rattle.bucket_pass.specs.declared.walk.NamePlan.{NamePlan}
use Rattle.bucket_pass.specs.Changes.{IsPlanFor, change}
use Rattle.bucket_pass.specs.Walked.{V, AreByName, AreOfName, ArePlansFor, IsPast, IsPlanned, MayHave, Stands}
use Rattle.bucket_pass.proofs.Blocks.{planned_first}
use Rattle.bucket_pass.proofs.Order.{order_right}

look_more : (t : ℕ) (vs : List V) (v : V) → map (face_of t) (vs ++ v ∷ []) ≡ map (face_of t) vs ++ face_of t v ∷ []
look_more t [] v = refl
look_more t (w ∷ vs) v = ap (λ l. face_of t w ∷ l) (look_more t vs v)

all_more : (P : V → Type 0) (vs : List V) (v : V) → AllByRecursion P vs → P v → AllByRecursion P (vs ++ v ∷ [])
all_more P [] v all is = (is, tt)
all_more P (w ∷ vs) v all is = (all.0, all_more P vs v all.1 is)

name_more : (name : Option (List ℕ)) (block : List V) (v : V) → MayHave name v.name → AreOfName name block → AreOfName (Some v.name) (block ++ v ∷ [])
name_more None block v may named = subst (λ l. AreOfName (Some v.name) (l ++ v ∷ [])) (sym named) (refl, tt)
name_more (Some n) [] v may named = absurd named
name_more (Some n) (w ∷ block) v may named = subst (λ m. AreOfName (Some m) (w ∷ (block ++ v ∷ []))) (sym may) (named.0, all_more (λ u. u.name ≡ n) block v named.1 may)

module _ (t : ℕ) (bucket : Bucket) (last first : ℕ) (all : List V) where
  pub begin : AreByName all → Stands t bucket last first all all None [] first []
  begin up = record { block = []; looks = refl; named = refl; order = up; onward = λ more p. p }

  -- one more of the name
  pub read : (v : V) (rest : List V) (name : Option (List ℕ)) (faces : List Face) (next : ℕ) (changes : List NamePlan)
      → MayHave name v.name → Stands t bucket last first all (v ∷ rest) name faces next changes → Stands t bucket last first all rest (Some v.name) (faces ++ face_of t v ∷ []) next changes
  read v rest name faces next changes may s =
      let same : (s.block ++ v ∷ []) ++ rest ≡ s.block ++ (v ∷ rest) = append_assoc s.block (v ∷ []) rest in
      record {
        block = s.block ++ v ∷ [];
        looks = look_more t s.block v ∙ ap (λ l. l ++ face_of t v ∷ []) s.looks;
        named = name_more name s.block v may s.named;
        order = subst AreByName (sym same) s.order;
        onward = λ more p. s.onward more (subst (λ vs. IsPlanned t bucket last next vs more) same p);
      }

  abbrev IsDrawn : List ℕ → List Face → ℕ → Option Plan → Type 0
  IsDrawn name faces next plan = (versions : List V) → map (face_of t) versions ≡ faces → IsPlanFor t (rule_for bucket name) (nat_le next last) versions plan

  ended_by : (name : List ℕ) (block rest : List V) (faces : List Face) (next : ℕ) (plan : Option Plan) (more : List NamePlan)
      → AreOfName (Some name) block → IsPast (Some name) rest → map (face_of t) block ≡ faces → IsDrawn name faces next plan
      → IsPlanned t bucket last (next_after plan next) rest more → IsPlanned t bucket last next (block ++ rest) (change name plan ++ more)
  ended_by name [] rest faces next plan more named past looks drawn p = absurd named
  ended_by name (v ∷ block) rest faces next plan more named past looks drawn p = planned_first name t bucket last next v block rest plan more named.0 named.1 past (drawn (v ∷ block) looks) p

  -- the plan of the name
  pub ended : (name : List ℕ) (rest : List V) (faces : List Face) (next : ℕ) (changes : List NamePlan) (plan : Option Plan)
      → IsPast (Some name) rest → IsDrawn name faces next plan → Stands t bucket last first all rest (Some name) faces next changes
      → Stands t bucket last first all rest None [] (next_after plan next) (changes ++ change name plan)
  ended name rest faces next changes plan past drawn s = record {
    block = [];
    looks = refl;
    named = refl;
    order = order_right s.block rest s.order;
    onward = λ more p. subst (λ l. IsPlanned t bucket last first all l) (sym (append_assoc changes (change name plan) more)) (s.onward (change name plan ++ more) (ended_by name s.block rest faces next plan more s.named past s.looks drawn p));
  }

  -- all are read and planned
  pub done : (faces : List Face) (next : ℕ) (changes : List NamePlan) → Stands t bucket last first all [] None faces next changes → IsPlanned t bucket last first all changes
  done faces next changes s =
      let none : s.block ++ [] ≡ [] = ap (λ l. l ++ []) s.named in
      let empty : IsPlanned t bucket last next [] [] = record { plans = []; drawn = refl; kept = refl } in
      subst (λ l. IsPlanned t bucket last first all l) (append-nil changes) (s.onward [] (subst (λ vs. IsPlanned t bucket last next vs []) (sym none) empty))

  -- the same with what the walk holds named anew
  pub begin_as : (rest : List V) (name : Option (List ℕ)) (faces : List Face) (next : ℕ) (changes : List NamePlan) → AreByName all
      → rest ≡ all → name ≡ None → faces ≡ [] → next ≡ first → changes ≡ [] → Stands t bucket last first all rest name faces next changes
  begin_as rest name faces next changes up rest_is name_is faces_is next_is changes_is = rw (rest_is, name_is, faces_is, next_is, changes_is) (begin up)

  pub left_as : (name : Option (List ℕ)) (faces : List Face) (next : ℕ) (changes : List NamePlan) (rest left : List V) → rest ≡ left → Stands t bucket last first all rest name faces next changes → Stands t bucket last first all left name faces next changes
  left_as name faces next changes rest left is s = subst (λ l. Stands t bucket last first all l name faces next changes) is s

  pub ended_as : (old : Option (List ℕ)) (name : List ℕ) (rest : List V) (faces : List Face) (next : ℕ) (changes : List NamePlan) (plan : Option Plan) → old ≡ Some name
      → IsPast old rest → IsDrawn name faces next plan → Stands t bucket last first all rest old faces next changes
      → (name' : Option (List ℕ)) (faces' : List Face) (next' : ℕ) (changes' : List NamePlan) → name' ≡ None → faces' ≡ [] → next' ≡ next_after plan next → changes' ≡ changes ++ change name plan
      → Stands t bucket last first all rest name' faces' next' changes'
  ended_as old name rest faces next changes plan is past drawn s name' faces' next' changes' name_is faces_is next_is changes_is =
      rw (name_is, faces_is, next_is, changes_is) (ended name rest faces next changes plan (subst (λ o. IsPast o rest) is past) drawn (subst (λ o. Stands t bucket last first all rest o faces next changes) is s))

  -- a plan hides only where a number is left, which then has one after it
  saturated : (hide due : Bool) (next : ℕ) → hide ≡ (due && nat_le next last) → last ≤ LAST_VERSION → (if hide then min (next + 1) (2 ^ 64 - 1) else next) ≡ (if hide then next + 1 else next)
  saturated true due next is within =
      let room : nat_le next last ≡ true = (and_parts due (nat_le next last) (sym is)).1 in
      let low : next ≤ last = grind (arith, nat_tests) in
      omega arith
  saturated false due next is within = refl

  hides : (rule : Option Rule) (room : Bool) (versions : List V) (plan : Plan) → IsPlanFor t rule room versions (Some plan) → (due : Bool) × (plan.hide ≡ (due && room))
  hides None room versions plan is = absurd is
  hides (Some rule) room versions plan is = (is_due t rule (files versions), is.hide)

  pub next_is : (old : Option (List ℕ)) (name : List ℕ) (rest : List V) (faces : List Face) (next : ℕ) (changes : List NamePlan) (plan : Plan) → last ≤ LAST_VERSION
      → IsDrawn name faces next (Some plan) → Stands t bucket last first all rest old faces next changes
      → (if plan.hide then min (next + 1) (2 ^ 64 - 1) else next) ≡ next_after (Some plan) next
  next_is old name rest faces next changes plan within drawn s =
      let due = hides (rule_for bucket name) (nat_le next last) s.block plan (drawn s.block s.looks) in
      saturated plan.hide due.0 next due.1 within

pub none_past : (name : Option (List ℕ)) → IsPast name []
none_past None = tt
none_past (Some name) = tt
