-- The versions of one name of a bucket, and the others.
use Rattle.std.specs.Prelude.{◌≡◌, ℕ, ◌<◌, ◌&&◌, ◌==◌, not, Bool, true, List, ◌++◌, filter, bytes_eq, if◌then◌else◌}
use Rattle.std.specs.List.{Contains, list_any}
use Rattle.b2_types.specs.declared.version.VersionOf.{VersionOf}
use Rattle.b2_model.specs.State.{State}
use Rattle.b2_model.specs.Rows.{rows}
use Rattle.b2_model.specs.Version.{marker, with_version}
use Rattle.b2_model.specs.Pass.{is_same}
use Rattle.lifecycle_pass.specs.declared.plans.Plan.{Plan}

abbrev pub is_of : {C : Type 0} → ℕ → List ℕ → VersionOf C → Bool
is_of bucket name v = v.bucket == bucket && bytes_eq v.name name

-- the versions of all other names and buckets
abbrev pub others : {C : Type 0} → ℕ → List ℕ → List (VersionOf C) → List (VersionOf C)
others bucket name versions = filter (λ v. not (is_of bucket name v)) versions

-- a bucket and a number tell the name, and the next number is free
pub record AreNumbered {C : Type 0} (M : State C) : Type 0 where
  pub names : (v w : VersionOf C) → Contains M.versions v → Contains M.versions w → is_same v w ≡ true → v.name ≡ w.name
  pub free : (v : VersionOf C) → Contains M.versions v → v.num < M.next_version

-- the versions of a name, newest first
abbrev pub rows_of : {C : Type 0} → State C → ℕ → List ℕ → List (VersionOf C)
rows_of M bucket name = filter (λ v. bytes_eq v.name name) (rows M bucket)

-- the number is that of a version that goes by the plan
abbrev pub is_gone : Plan → ℕ → Bool
is_gone plan num = list_any (λ n. num == n) (plan.cancels ++ plan.drops)

-- the state after a plan for a name: with a marker, where it is hidden, and without the versions that go
abbrev pub after_plan : {C : Type 0} → ℕ → ℕ → List ℕ → Plan → State C → State C
after_plan t bucket name plan M =
    let N = if plan.hide then with_version (marker bucket M.next_version name t) M else M in
    record N { versions = filter (λ v. not (v.bucket == bucket && is_gone plan v.num)) N.versions }
