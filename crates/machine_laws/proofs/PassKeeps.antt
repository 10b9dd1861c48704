-- The lifecycle pass changes versions and the next number of one alone, and forgets tokens.
use Rattle.std.proofs.Common.{◌≡◌, ℕ, Bool, true, false, ◌&&◌, nat_le, List, [], ◌∷◌, ◌++◌, Option, Some, None, fold, if◌then◌else◌, refl, ap, ◌∙◌}
use Rattle.b2_types.specs.declared.bucket.Bucket.{Bucket}
use Rattle.b2_types.specs.declared.bucket.Rule.{Rule}
use Rattle.b2_types.specs.declared.version.VersionOf.{VersionOf}
use Rattle.b2_model.specs.State.{State}
use Rattle.b2_model.specs.Rows.{rows}
use Rattle.b2_model.specs.Version.{marker, with_version}
use Rattle.b2_model.specs.Pass.{rule_for, is_due, drops, without_versions, names_in, with_due_hide, of_name, cancels, pass_on, pass_names, pass}

module _ {C : Type 0} where
  abbrev pub with_rows : State C → List (VersionOf C) → ℕ → State C
  with_rows M versions next = record M { versions = versions; next_version = next }

  -- the second state is the first but for versions and their next number
  abbrev pub Others : State C → State C → Type 0
  Others M N = N ≡ with_rows M N.versions N.next_version

  pub Others-trans : (M N O : State C) → Others M N → Others N O → Others M O
  Others-trans M N O first second = second ∙ ap (λ X. with_rows X O.versions O.next_version) first

  if_others : (b : Bool) (M N : State C) → Others M N → Others M (if b then N else M)
  if_others true M N others = others
  if_others false M N others = refl

  fewer : (M N : State C) (versions : List (VersionOf C)) → Others M N → Others M (record N { versions = versions })
  fewer M N versions others = ap (λ X. with_rows X versions N.next_version) others

  pub on_name : (t bucket : ℕ) (name : List ℕ) (rule : Option Rule) (M : State C) → Others M (pass_on t bucket name rule M)
  on_name t bucket name None M = refl
  on_name t bucket name (Some rule) M =
      let due = is_due t rule (of_name M bucket name) in
      let N = with_due_hide t bucket name due M in
      fewer M N (without_versions (cancels M t bucket rule name ++ drops t rule (of_name N bucket name)) N.versions)
      (if_others (due && nat_le M.next_version M.settings.last_version) M (with_version (marker bucket M.next_version name t) M) refl)

  pub on_names : (t : ℕ) (bucket : Bucket) (names : List (List ℕ)) (M : State C) → Others M (pass_names t bucket names M)
  on_names t bucket [] M = refl
  on_names t bucket (name ∷ names) M =
      let N = pass_on t bucket.num name (rule_for bucket name) M in
      Others-trans M N (pass_names t bucket names N) (on_name t bucket.num name (rule_for bucket name) M) (on_names t bucket names N)

  -- the pass on some buckets, one after the other
  abbrev pub pass_each : ℕ → List Bucket → State C → State C
  pass_each t buckets M = fold (λ N bucket. pass_names t bucket (names_in (rows N bucket.num)) N) M buckets

  pub on_each : (t : ℕ) (buckets : List Bucket) (M : State C) → Others M (pass_each t buckets M)
  on_each t [] M = refl
  on_each t (bucket ∷ buckets) M =
      let N = pass_names t bucket (names_in (rows M bucket.num)) M in
      Others-trans M N (pass_each t buckets N) (on_names t bucket (names_in (rows M bucket.num)) M) (on_each t buckets N)

  pub passed_flights : (t : ℕ) (M : State C) → (pass t M).flights ≡ M.flights
  passed_flights t M = ap (λ N. N.flights) (on_each t M.buckets M)
