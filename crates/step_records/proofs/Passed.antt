-- The pass on the stored part of a state is the stored part of the pass.
use Rattle.std.proofs.Common.{◌≡◌, ℕ, ◌+◌, ◌/◌, Bool, true, false, not, ◌&&◌, nat_le, List, [], ◌∷◌, ◌++◌, Option, Some, None, filter, if◌then◌else◌, refl, ap, ◌∙◌}
use Rattle.b2_types.specs.declared.bucket.Bucket.{Bucket}
use Rattle.b2_types.specs.declared.bucket.Rule.{Rule}
use Rattle.b2_model.specs.Kinds.{day}
use Rattle.b2_model.specs.State.{State}
use Rattle.b2_model.specs.Rows.{rows}
use Rattle.b2_model.specs.Version.{marker, with_version}
use Rattle.b2_model.specs.Pass.{rule_for, is_due, drops, without_versions, names_in, of_name, cancels, pass_on, pass_names, is_idle}
use Rattle.b2_model.specs.Stored.{stored_part}
use Rattle.b2_model.specs.Run.{with_pass}
use Rattle.machine_laws.proofs.PassKeeps.{pass_each}

module _ {C : Type 0} where
  -- the state without what is not stored, at this moment
  abbrev bare : ℕ → State C → State C
  bare t M = record M { now = t; serial = 0; grants = []; flights = [] }

  bare_if : (t : ℕ) (b : Bool) (M N : State C) → (if b then bare t N else bare t M) ≡ bare t (if b then N else M)
  bare_if t true M N = refl
  bare_if t false M N = refl

  module _ (at t : ℕ) where
    -- the state after the hiding, with the versions that go taken off
    abbrev dropped : ℕ → List ℕ → Rule → State C → State C → State C
    dropped bucket name rule M N = record N { versions = without_versions (cancels M t bucket rule name ++ drops t rule (of_name N bucket name)) N.versions }

    on_name : (bucket : ℕ) (name : List ℕ) (rule : Option Rule) (M : State C) → pass_on t bucket name rule (bare at M) ≡ bare at (pass_on t bucket name rule M)
    on_name bucket name None M = refl
    on_name bucket name (Some rule) M =
        ap (dropped bucket name rule (bare at M))
        (bare_if at (is_due t rule (of_name M bucket name) && nat_le M.next_version M.settings.last_version) M (with_version (marker bucket M.next_version name t) M))

    on_names : (bucket : Bucket) (names : List (List ℕ)) (M : State C) → pass_names t bucket names (bare at M) ≡ bare at (pass_names t bucket names M)
    on_names bucket [] M = refl
    on_names bucket (name ∷ names) M =
        ap (pass_names t bucket names) (on_name bucket.num name (rule_for bucket name) M) ∙ on_names bucket names (pass_on t bucket.num name (rule_for bucket name) M)

    on_buckets : (buckets : List Bucket) (M : State C) → pass_each t buckets (bare at M) ≡ bare at (pass_each t buckets M)
    on_buckets [] M = refl
    on_buckets (bucket ∷ buckets) M =
        ap (pass_each t buckets) (on_names bucket (names_in (rows M bucket.num)) M) ∙ on_buckets buckets (pass_names t bucket (names_in (rows M bucket.num)) M)

  -- what is left to do of a pass after its work on names
  abbrev ended : ℕ → State C → State C
  ended t N = record N { now = t; kept = t; pass_day = t / day; grants = filter (λ g. not (is_idle N g.text && nat_le (g.end + day) t)) N.grants }

  pub passed_stored : (t : ℕ) (M : State C) → with_pass (stored_part M) t ≡ stored_part (with_pass M t)
  passed_stored t M = ap (ended t) (on_buckets M.kept t M.buckets M)
