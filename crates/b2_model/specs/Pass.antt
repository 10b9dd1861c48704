-- The lifecycle pass (the B2 reference, "Lifecycle rules"): what one pass hides and what it removes.
use Rattle.std.specs.Prelude.{ℕ, Bool, true, false, not, ◌&&◌, ◌==◌, ◌+◌, ◌*◌, ◌/◌, nat_le, List, [], ◌∷◌, ◌++◌, Option, Some, None, if◌then◌else◌, find, filter, fold, bytes_eq}
use Rattle.std.specs.List.{list_any, list_all}
use Rattle.name_rules.specs.Folder.{begins_with}
use Rattle.b2_types.specs.declared.bucket.Bucket.{Bucket}
use Rattle.b2_types.specs.declared.bucket.Rule.{Rule}
use Rattle.b2_types.specs.declared.version.VersionOf.{VersionOf}
use Rattle.b2_model.specs.Kinds.{is_upload, is_hide, is_start, day}
use Rattle.b2_model.specs.Checks.{some_and}
use Rattle.b2_model.specs.State.{State}
use Rattle.b2_model.specs.Rows.{rows}
use Rattle.b2_model.specs.Locks.{is_protected}
use Rattle.b2_model.specs.Version.{marker, with_version}

-- so many days after the stamp have come; where no days are given they never come
abbrev pub has_aged : ℕ → ℕ → Option ℕ → Bool
has_aged t stamp days = some_and (λ n. nat_le (stamp + n * day) t) days

-- the rule whose prefix begins the name
abbrev pub rule_for : Bucket → List ℕ → Option Rule
rule_for bucket name = find (λ r. begins_with r.prefix name) bucket.rules

-- ---- one name with a rule, its versions newest first, without starts

-- the newest is an upload that is to be hidden
abbrev pub is_due : {C : Type 0} → ℕ → Rule → List (VersionOf C) → Bool
is_due t rule [] = false
is_due t rule (v ∷ vs) = is_upload v.action && has_aged t v.stamp rule.hide_days

-- a version goes where the one above it was there long enough, and nothing protects it
abbrev pub goes_under : {C : Type 0} → ℕ → Rule → VersionOf C → VersionOf C → Bool
goes_under t rule above v = has_aged t above.stamp rule.delete_days && not (is_protected t v)

-- those that go below the newest
abbrev pub lower_drops : {C : Type 0} → ℕ → Rule → VersionOf C → List (VersionOf C) → List (VersionOf C)
lower_drops t rule above [] = []
lower_drops t rule above (v ∷ vs) =
    if goes_under t rule above v then v ∷ lower_drops t rule v vs else lower_drops t rule v vs

abbrev pub all_go : {C : Type 0} → ℕ → Rule → VersionOf C → List (VersionOf C) → Bool
all_go t rule above [] = true
all_go t rule above (v ∷ vs) = goes_under t rule above v && all_go t rule v vs

-- a marker goes with the last that it hides
abbrev pub drops : {C : Type 0} → ℕ → Rule → List (VersionOf C) → List (VersionOf C)
drops t rule [] = []
drops t rule (v ∷ vs) =
    if is_hide v.action && all_go t rule v vs && has_aged t v.stamp rule.delete_days then v ∷ lower_drops t rule v vs
    else lower_drops t rule v vs

-- ---- the names of a bucket, by their bytes

-- the same version: that of its bucket and number
abbrev pub is_same : {C : Type 0} → VersionOf C → VersionOf C → Bool
is_same v w = v.bucket == w.bucket && v.num == w.num

abbrev pub without_versions : {C : Type 0} → List (VersionOf C) → List (VersionOf C) → List (VersionOf C)
without_versions gone versions = filter (λ v. not (list_any (is_same v) gone)) versions

-- a name, once
abbrev pub names_in : {C : Type 0} → List (VersionOf C) → List (List ℕ)
names_in [] = []
names_in (v ∷ vs) = v.name ∷ filter (λ name. not (bytes_eq name v.name)) (names_in vs)

-- the state after the hiding of the name, where it is due and a number is left
abbrev pub with_due_hide : {C : Type 0} → ℕ → ℕ → List ℕ → Bool → State C → State C
with_due_hide t bucket name due M =
    if due && nat_le M.next_version M.settings.last_version
    then with_version (marker bucket M.next_version name t) M
    else M

-- the versions of a name that are no starts, newest first
abbrev pub of_name : {C : Type 0} → State C → ℕ → List ℕ → List (VersionOf C)
of_name M bucket name = filter (λ v. bytes_eq v.name name && not (is_start v.action)) (rows M bucket)

-- the starts of a name that were begun long enough ago
abbrev pub cancels : {C : Type 0} → State C → ℕ → ℕ → Rule → List ℕ → List (VersionOf C)
cancels M t bucket rule name =
    filter (λ v. v.bucket == bucket && bytes_eq v.name name && is_start v.action && has_aged t v.stamp rule.cancel_days) M.versions

-- the state after the part of the pass on one name
abbrev pub pass_on : {C : Type 0} → ℕ → ℕ → List ℕ → Option Rule → State C → State C
pass_on t bucket name None M = M
pass_on t bucket name (Some rule) M =
    let N = with_due_hide t bucket name (is_due t rule (of_name M bucket name)) M in
    record N { versions = without_versions (cancels M t bucket rule name ++ drops t rule (of_name N bucket name)) N.versions }

abbrev pub pass_names : {C : Type 0} → ℕ → Bucket → List (List ℕ) → State C → State C
pass_names t bucket names M = fold (λ N name. pass_on t bucket.num name (rule_for bucket name) N) M names

abbrev pub pass_buckets : {C : Type 0} → ℕ → State C → State C
pass_buckets t M = fold (λ N bucket. pass_names t bucket (names_in (rows N bucket.num)) N) M M.buckets

-- ---- tokens

-- no flight is on the token
abbrev pub is_idle : {C : Type 0} → State C → List ℕ → Bool
is_idle M text = list_all (λ f. not (bytes_eq f.token text)) M.flights

-- tokens that ended a day ago or more are forgotten, but those of uploads under way
abbrev pub without_old_grants : {C : Type 0} → ℕ → State C → State C
without_old_grants t M = record M { grants = filter (λ g. not (is_idle M g.text && nat_le (g.end + day) t)) M.grants }

-- the pass at this moment
abbrev pub pass : {C : Type 0} → ℕ → State C → State C
pass t M = without_old_grants t (record (pass_buckets t M) { pass_day = t / day })
