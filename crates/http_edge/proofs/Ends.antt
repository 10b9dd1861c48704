-- Where an empty line ends.
use Rattle.std.proofs.Common.{◌≡◌, ◌≢◌, ℕ, ◌+◌, ◌<◌, ◌≤◌, ◌⊎◌, inl, inr, List, length, take, drop, ◌-◌, slice_index, refl, sym, ap, ◌∙◌, subst, arith}
use Rattle.std.proofs.lemmas.List.{get_or-take, get_or-drop, length-take-le, length-drop}
use Rattle.memchr.specs.Find.{Nowhere, Passes, is_byte}
use Rattle.std.proofs.lemmas.Bool.{cases_lt, eqb-true}
use Rattle.http_edge.specs.Cut.{IsEmptyLine, HasBegun, IsEnd, NoEnd, IsOther, EndsLine, HasOther}

not_at : (bytes : List ℕ) (i j byte : ℕ) → i ≡ j → slice_index bytes j ≡ byte → slice_index bytes i ≡ byte
not_at bytes i j byte same is = ap (slice_index bytes) same ∙ is

-- a byte of an empty line is no other byte
before_line : (bytes : List ℕ) (at i start : ℕ) → IsEmptyLine bytes start (at + 1) → i < at → IsOther (slice_index bytes i) → (i < start) ⊎ (start ≤ i) → i < start
before_line bytes at i start line below other (inl before) = before
before_line bytes at i start (inl two) below other (inr from) = absurd (other.1 (not_at bytes i start 10 (omega (arith, two.0, below, from)) two.1.1))
before_line bytes at i start (inr three) below other (inr from) = absurd (in_three (cases_lt i (start + 1)))
  where
    in_three : (i < start + 1) ⊎ (start + 1 ≤ i) → ⊥
    in_three (inl first) = other.1 (not_at bytes i start 10 (omega (arith, first, from)) three.1.1)
    in_three (inr second) = other.0 (not_at bytes i (start + 1) 13 (omega (arith, three.0, below, second)) three.2.1)

pub begun_before : (bytes : List ℕ) (at start : ℕ) → at < length bytes → IsEmptyLine bytes start (at + 1) → HasOther bytes at → HasBegun bytes start
begun_before bytes at start within line (i, below, other) =
    let before = before_line bytes at i start line below other (cases_lt i start) in (i, before, omega (arith, below, within), other.0, other.1)

pub is_end : (bytes : List ℕ) (at : ℕ) → at < length bytes → EndsLine bytes at → HasOther bytes at → IsEnd bytes (at + 1)
is_end bytes at within (start, line) other = (start, line, begun_before bytes at start within line other)

starts_before : (bytes : List ℕ) (start end : ℕ) → IsEmptyLine bytes start end → start < end
starts_before bytes start end (inl two) = omega (arith, two.0)
starts_before bytes start end (inr three) = omega (arith, three.0)

pub other_before : (bytes : List ℕ) (at start : ℕ) → IsEmptyLine bytes start (at + 1) → HasBegun bytes start → HasOther bytes at
other_before bytes at start line (i, below, within, not_cr, not_lf) = let line_from = starts_before bytes start (at + 1) line in (i, omega (arith, below, line_from), (not_cr, not_lf))

-- no end stands up to the place after this byte
pub none_more : (bytes : List ℕ) (at : ℕ) → NoEnd bytes at → (IsEnd bytes (at + 1) → ⊥) → NoEnd bytes (at + 1)
none_more bytes at before not_here end most is = by_place (cases_lt end (at + 1))
  where
    by_place : (end < at + 1) ⊎ (at + 1 ≤ end) → ⊥
    by_place (inl lower) = before end (omega (arith, lower)) is
    by_place (inr higher) = not_here (subst (IsEnd bytes) (omega (arith, most, higher)) is)

-- ---- the way back

-- only CR and LF stand from one place up to another
abbrev pub NoOther : List ℕ → ℕ → ℕ → Type 0
NoOther bytes from at = (i : ℕ) → from ≤ i → i < at → IsOther (slice_index bytes i) → ⊥

pub none_from : (bytes : List ℕ) (from at : ℕ) → NoOther bytes (from + 1) at → (IsOther (slice_index bytes from) → ⊥) → NoOther bytes from at
none_from bytes from at further not_here i least below other = by_place (cases_lt i (from + 1))
  where
    by_place : (i < from + 1) ⊎ (from + 1 ≤ i) → ⊥
    by_place (inl first) = not_here (subst (λ k. IsOther (slice_index bytes k)) (omega (arith, first, least)) other)
    by_place (inr later) = further i later below other

-- an empty line on the way back that is no end has nothing before it
pub none_before : (bytes : List ℕ) (from at : ℕ) → from < at → at < length bytes → NoEnd bytes at → EndsLine bytes from → NoOther bytes from at → HasOther bytes at → ⊥
none_before bytes from at back within none line clean (i, below, other) = by_place (cases_lt i from)
  where
    by_place : (i < from) ⊎ (from ≤ i) → ⊥
    by_place (inl lower) = none (from + 1) (omega (arith, back)) (is_end bytes from (omega (arith, back, within)) line (i, lower, other))
    by_place (inr higher) = clean i higher below other

-- an empty line ends in the bytes
pub ends_within : (bytes : List ℕ) (start end : ℕ) → IsEmptyLine bytes start end → end ≤ length bytes
ends_within bytes start end (inl two) = let last = two.2.0 in omega (arith, two.0, last)
ends_within bytes start end (inr three) = let last = three.3.0 in omega (arith, three.0, last)

-- ---- the search

-- no line feed stands from one place up to another
abbrev pub NoLine : List ℕ → ℕ → ℕ → Type 0
NoLine bytes at place = (i : ℕ) → at ≤ i → i < place → slice_index bytes i ≢ 10

line_ends : (bytes : List ℕ) (at place start end : ℕ) → NoLine bytes at place → end ≤ place → at < end → IsEmptyLine bytes start end → ⊥
line_ends bytes at place start end none most more (inl two) = none (start + 1) (omega (arith, two.0, more)) (omega (arith, two.0, most)) two.2.1
line_ends bytes at place start end none most more (inr three) = none (start + 2) (omega (arith, three.0, more)) (omega (arith, three.0, most)) three.3.1

up_to : (bytes : List ℕ) (at place end : ℕ) → NoEnd bytes at → NoLine bytes at place → end ≤ place → (at < end) ⊎ (end ≤ at) → IsEnd bytes end → ⊥
up_to bytes at place end before none most (inl more) (start, line, begun) = line_ends bytes at place start end none most more line
up_to bytes at place end before none most (inr less) is = before end less is

-- no end stands up to the next line feed
pub none_up_to : (bytes : List ℕ) (at place : ℕ) → NoEnd bytes at → NoLine bytes at place → NoEnd bytes place
none_up_to bytes at place before none end most = up_to bytes at place end before none most (cases_lt at end)

-- what stands in a window of the bytes
in_window : (bytes : List ℕ) (at limit i : ℕ) → at ≤ i → i < limit → slice_index (take (limit - at) (drop at bytes)) (i - at) ≡ slice_index bytes i
in_window bytes at limit i from below =
    get_or-take (limit - at) (drop at bytes) (i - at) 0 (omega (arith, from, below)) ∙ get_or-drop at bytes (i - at) 0 ∙ ap (slice_index bytes) (omega (arith, from))

pub no_line_within : (bytes : List ℕ) (at limit n : ℕ) → Nowhere (Passes (is_byte 10) (take (limit - at) (drop at bytes))) 0 n → at + n ≤ limit → NoLine bytes at (at + n)
no_line_within bytes at limit n none most i from below is =
    none (i - at) (omega arith) (omega (arith, from, below)) (rw (in_window bytes at limit i from (omega (arith, below, most)) ∙ is) refl)

pub width : (bytes : List ℕ) (at limit : ℕ) → at ≤ limit → limit ≤ length bytes → length (take (limit - at) (drop at bytes)) ≡ limit - at
width bytes at limit low high =
    let rest = length-drop at bytes in length-take-le (limit - at) (drop at bytes) (omega (arith, rest, low, high))

pub no_line_at_all : (bytes : List ℕ) (at limit : ℕ) → at ≤ limit → limit ≤ length bytes → Nowhere (Passes (is_byte 10) (take (limit - at) (drop at bytes))) 0 (length (take (limit - at) (drop at bytes))) → NoLine bytes at limit
no_line_at_all bytes at limit low high none =
    let wide = width bytes at limit low high in
    λ i from below. no_line_within bytes at limit (limit - at) (λ k from_zero k_below. none k from_zero (omega (arith, k_below, wide))) (omega (arith, low)) i from (omega (arith, low, below))

pub line_at : (bytes : List ℕ) (at limit n : ℕ) → Passes (is_byte 10) (take (limit - at) (drop at bytes)) n → at + n < limit → slice_index bytes (at + n) ≡ 10
line_at bytes at limit n is below =
    let moved : slice_index (take (limit - at) (drop at bytes)) n ≡ slice_index bytes (at + n) =
    get_or-take (limit - at) (drop at bytes) n 0 (omega (arith, below)) ∙ get_or-drop at bytes n 0 in
    sym moved ∙ eqb-true (slice_index (take (limit - at) (drop at bytes)) n) 10 is
