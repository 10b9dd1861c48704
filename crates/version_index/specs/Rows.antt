-- The rows of an index in listing order (the B2 reference, b2_list_file_versions).
use Rattle.std.specs.Prelude.{ℕ, ◌≤◌, Bool, not, ◌&&◌, ◌==◌, Option, List, [], ◌∷◌, filter, find, bytes_eq, if◌then◌else◌}
use Rattle.std.specs.Map.{keys_of, lookup}
use Rattle.std.specs.List.{AllByRecursion}
use Rattle.b2_base.specs.declared.numbers.TheConstants.{LAST_VERSION}
use Rattle.std.specs.List.Sorted.{IsStrictlySortedBy}
use Rattle.std.specs.declared.cmp.Ordering.{Ordering}
use Rattle.std.specs.Ordering.{is_eq, is_le, is_lt, nat_cmp, ordering_then}
use Rattle.std.specs.Cmp.Lexicographic.{slice_cmp}
use Rattle.version_index.specs.declared.spot.Spot.{Spot}

-- by bucket, by the bytes of the name, and within a name from the greatest number down
abbrev pub listing_cmp : Spot → Spot → Ordering
listing_cmp s t =
    ordering_then (nat_cmp s.bucket t.bucket)
    (ordering_then (slice_cmp nat_cmp s.name t.name) (nat_cmp t.num s.num))

-- before all rows of the bucket
abbrev pub first_spot : ℕ → Spot
first_spot bucket = record { bucket = bucket; name = []; num = LAST_VERSION }

-- the two are one spot
abbrev pub is_spot : Spot → Spot → Bool
is_spot s t = is_eq (listing_cmp s t)

-- t lies in the bucket of s, at s or after it
abbrev pub is_from : Spot → Spot → Bool
is_from s t = t.bucket == s.bucket && is_le (listing_cmp s t)

-- t is of the bucket and the name of s
abbrev pub is_named : Spot → Spot → Bool
is_named s t = t.bucket == s.bucket && bytes_eq t.name s.name

module _ {V : Type 0} where
  -- each row stands before those that follow
  abbrev pub AreAscending : List (Spot × V) → Type 0
  AreAscending rows = IsStrictlySortedBy listing_cmp (keys_of rows)

  -- and each has a number in its range
  abbrev pub AreInRange : List (Spot × V) → Type 0
  AreInRange rows = AllByRecursion (λ r. r.0.num ≤ LAST_VERSION) rows

  -- the row at its place among the others
  abbrev pub placed : Spot × V → List (Spot × V) → List (Spot × V)
  placed row [] = row ∷ []
  placed row (r ∷ rs) = if is_lt (listing_cmp row.0 r.0) then row ∷ r ∷ rs else r ∷ placed row rs

  -- what stands at the spot
  abbrev pub value_at : Spot → List (Spot × V) → Option V
  value_at s rows = lookup (is_spot s) rows

  -- the rows at other spots
  abbrev pub without : Spot → List (Spot × V) → List (Spot × V)
  without s rows = filter (λ r. not (is_spot s r.0)) rows

  -- the rows at s or after it, and those after it, of all buckets
  abbrev pub rows_from : Spot → List (Spot × V) → List (Spot × V)
  rows_from s rows = filter (λ r. is_le (listing_cmp s r.0)) rows

  abbrev pub rows_after : Spot → List (Spot × V) → List (Spot × V)
  rows_after s rows = filter (λ r. is_lt (listing_cmp s r.0)) rows

  -- the first of them
  abbrev pub first_from : Spot → List (Spot × V) → Option (Spot × V)
  first_from s rows = find (λ r. is_le (listing_cmp s r.0)) rows

  -- the first row of the bucket of s at s or after it
  abbrev pub row_from : Spot → List (Spot × V) → Option (Spot × V)
  row_from s rows = find (λ r. is_from s r.0) rows

  -- the first row of the bucket and the name of s, which is the newest
  abbrev pub first_named : Spot → List (Spot × V) → Option (Spot × V)
  first_named s rows = find (λ r. is_named s r.0) rows
