-- The steps of a pass on a bucket.
use Rattle.std.specs.Prelude.{◌≡◌, ℕ, ◌+◌, ◌≤◌, ◌==◌, ◌&&◌, not, true, List, [], ◌∷◌, if◌then◌else◌, filter}
use Rattle.std.specs.List.{list_any}
use Rattle.b2_model.specs.State.{State}
use Rattle.bucket_pass.specs.declared.walk.NamePlan.{NamePlan}

-- the state without the versions of a bucket that have these numbers
abbrev pub without_numbers : {C : Type 0} → ℕ → List ℕ → State C → State C
without_numbers bucket nums M = record M { versions = filter (λ v. not (v.bucket == bucket && list_any (λ n. v.num == n) nums)) M.versions }

-- a number up to the last is left for each name that is hidden, where this is the next
abbrev pub HaveRoom : ℕ → ℕ → List NamePlan → Type 0
HaveRoom last next [] = Unit {0}
HaveRoom last next (c ∷ cs) = (c.plan.hide ≡ true → next ≤ last) × HaveRoom last (if c.plan.hide then next + 1 else next) cs
