-- The versions of a bucket in listing order (the B2 reference, b2_list_file_versions).
use Rattle.std.specs.Prelude.{ℕ, Bool, true, false, ◌&&◌, ◌==◌, nat_lt, List, [], ◌∷◌, Option, if◌then◌else◌, filter, find, fold}
use Rattle.std.specs.Ordering.{nat_cmp, match_ordering}
use Rattle.std.specs.Cmp.Lexicographic.{slice_cmp}
use Rattle.b2_types.specs.declared.version.VersionOf.{VersionOf}
use Rattle.b2_model.specs.State.{State}

-- by the bytes of the names, and within a name from the greatest number down
abbrev pub is_before : {C : Type 0} → VersionOf C → VersionOf C → Bool
is_before v w = match_ordering (slice_cmp nat_cmp v.name w.name) true (nat_lt w.num v.num) false

-- the version at its place among sorted ones
abbrev pub put_row : {C : Type 0} → VersionOf C → List (VersionOf C) → List (VersionOf C)
put_row v [] = v ∷ []
put_row v (w ∷ ws) = if is_before v w then v ∷ w ∷ ws else w ∷ put_row v ws

abbrev pub listing_order : {C : Type 0} → List (VersionOf C) → List (VersionOf C)
listing_order versions = fold (λ ws v. put_row v ws) [] versions

abbrev pub rows : {C : Type 0} → State C → ℕ → List (VersionOf C)
rows M bucket = listing_order (filter (λ v. v.bucket == bucket) M.versions)

-- the version of this bucket and number
abbrev pub version_at : {C : Type 0} → State C → ℕ → ℕ → Option (VersionOf C)
version_at M bucket num = find (λ v. v.bucket == bucket && v.num == num) M.versions
