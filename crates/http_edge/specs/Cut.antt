-- Where the head of a request ends (RFC 9112, sections 2.1 and 2.2): at its first empty line. Empty lines
-- in front of the request are passed over.
use Rattle.std.specs.Prelude.{◌≡◌, ◌⊎◌, ℕ, ◌+◌, ◌<◌, ◌≤◌, List, length, slice_index}
use Rattle.http_edge.specs.declared.cut.Cut.{Cut}
use Rattle.http_edge.specs.declared.cut.Cut.TheVariants.{Head, NotYet, TooLong}

-- the most bytes of a head
abbrev pub most_head : ℕ
most_head = 16384

-- this byte stands at the place
abbrev pub Stands : List ℕ → ℕ → ℕ → Type 0
Stands bytes at byte = (at < length bytes) × (slice_index bytes at ≡ byte)

-- a line feed, and the empty line after it, from one place up to another
abbrev pub IsEmptyLine : List ℕ → ℕ → ℕ → Type 0
IsEmptyLine bytes start end =
    ((end ≡ start + 2) × Stands bytes start 10 × Stands bytes (start + 1) 10)
    ⊎ ((end ≡ start + 3) × Stands bytes start 10 × Stands bytes (start + 1) 13 × Stands bytes (start + 2) 10)

-- a byte that is neither CR nor LF stands before the place
abbrev pub HasBegun : List ℕ → ℕ → Type 0
HasBegun bytes start = (at : ℕ) × (at < start) × (at < length bytes) × (slice_index bytes at ≡ 13 → ⊥) × (slice_index bytes at ≡ 10 → ⊥)

-- an empty line of the head ends here
abbrev pub IsEnd : List ℕ → ℕ → Type 0
IsEnd bytes end = (start : ℕ) × IsEmptyLine bytes start end × HasBegun bytes start

-- no empty line of the head ends up to here
abbrev pub NoEnd : List ℕ → ℕ → Type 0
NoEnd bytes most = (end : ℕ) → end ≤ most → IsEnd bytes end → ⊥

-- what the bytes that came so far are cut to
abbrev pub IsCut : List ℕ → Cut → Type 0
IsCut bytes (Head end) = IsEnd bytes end × (end ≤ most_head) × ((before : ℕ) → before < end → IsEnd bytes before → ⊥)
IsCut bytes NotYet = (length bytes < most_head) × NoEnd bytes (length bytes)
IsCut bytes TooLong = (most_head ≤ length bytes) × NoEnd bytes most_head

-- ---- for the steps of the search

abbrev pub IsOther : ℕ → Type 0
IsOther byte = (byte ≡ 13 → ⊥) × (byte ≡ 10 → ⊥)

-- an empty line ends after the byte at this place
abbrev pub EndsLine : List ℕ → ℕ → Type 0
EndsLine bytes at = (start : ℕ) × IsEmptyLine bytes start (at + 1)

-- another byte stands before the place
abbrev pub HasOther : List ℕ → ℕ → Type 0
HasOther bytes at = (i : ℕ) × (i < at) × IsOther (slice_index bytes i)
