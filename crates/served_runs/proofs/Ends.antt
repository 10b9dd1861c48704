-- Every list of bytes is cut somehow.
use Rattle.std.proofs.Common.{◌≡◌, ℕ, zero, suc, ◌+◌, ◌<◌, ◌≤◌, ◌⊎◌, inl, inr, List, length, slice_index, subst, arith}
use Rattle.std.proofs.lemmas.Bool.{cases_lt, cases_eq}
use Rattle.http_edge.specs.declared.cut.Cut.{Cut}
use Rattle.http_edge.specs.declared.cut.Cut.TheVariants.{Head, NotYet, TooLong}
use Rattle.http_edge.specs.Cut.{Stands, IsEmptyLine, HasBegun, IsEnd, NoEnd, IsCut}
use Rattle.served_runs.proofs.Decided.{Decided, as_well, both, either, not_so, is_below, some_below}

does_stand : (bytes : List ℕ) (at byte : ℕ) → Decided (Stands bytes at byte)
does_stand bytes at byte = both (is_below at (length bytes)) (cases_eq (slice_index bytes at) byte)

is_empty_line : (bytes : List ℕ) (start end : ℕ) → Decided (IsEmptyLine bytes start end)
is_empty_line bytes start end = either
    (as_well (both (cases_eq end (start + 2)) (both (does_stand bytes start 10) (does_stand bytes (start + 1) 10))) (λ p. (p.0, p.1.0, p.1.1)) (λ t. (t.0, (t.1, t.2))))
    (as_well (both (cases_eq end (start + 3)) (both (does_stand bytes start 10) (both (does_stand bytes (start + 1) 13) (does_stand bytes (start + 2) 10)))) (λ p. (p.0, p.1.0, p.1.1.0, p.1.1.1)) (λ t. (t.0, (t.1, (t.2, t.3)))))

abbrev IsOtherAt : List ℕ → ℕ → Type 0
IsOtherAt bytes at = (at < length bytes) × ((slice_index bytes at ≡ 13 → ⊥) × (slice_index bytes at ≡ 10 → ⊥))

is_other_at : (bytes : List ℕ) (at : ℕ) → Decided (IsOtherAt bytes at)
is_other_at bytes at = both (is_below at (length bytes)) (both (not_so (cases_eq (slice_index bytes at) 13)) (not_so (cases_eq (slice_index bytes at) 10)))

has_begun : (bytes : List ℕ) (start : ℕ) → Decided (HasBegun bytes start)
has_begun bytes start = as_well (some_below start (IsOtherAt bytes) (is_other_at bytes))
    (λ s. (s.0, s.1, s.2.0, s.2.1.0, s.2.1.1))
    (λ b. (b.0, b.1, (b.2, (b.3, b.4))))

abbrev EndsFrom : List ℕ → ℕ → ℕ → Type 0
EndsFrom bytes end start = IsEmptyLine bytes start end × HasBegun bytes start

starts_before : (bytes : List ℕ) (start end : ℕ) → IsEmptyLine bytes start end → start < end
starts_before bytes start end (inl two) = let is = two.0 in omega (arith, is)
starts_before bytes start end (inr three) = let is = three.0 in omega (arith, is)

is_end : (bytes : List ℕ) (end : ℕ) → Decided (IsEnd bytes end)
is_end bytes end = as_well (some_below end (EndsFrom bytes end) (λ start. both (is_empty_line bytes start end) (has_begun bytes start)))
    (λ s. (s.0, s.2.0, s.2.1))
    (λ e. (e.0, starts_before bytes e.0 end e.1, (e.1, e.2)))

-- the first end up to a place
abbrev IsFirstEnd : List ℕ → ℕ → ℕ → Type 0
IsFirstEnd bytes most end = IsEnd bytes end × (end ≤ most) × ((before : ℕ) → before < end → IsEnd bytes before → ⊥)

first_end : (bytes : List ℕ) (most : ℕ) → ((end : ℕ) × IsFirstEnd bytes most end) ⊎ NoEnd bytes most
first_end bytes zero = by (is_end bytes 0)
  where
    nowhere : (IsEnd bytes 0 → ⊥) → NoEnd bytes 0
    nowhere none end low is = none (subst (IsEnd bytes) (omega (arith, low)) is)

    by : Decided (IsEnd bytes 0) → ((end : ℕ) × IsFirstEnd bytes 0 end) ⊎ NoEnd bytes 0
    by (inl is) = inl (0, (is, omega arith, λ before below end. absurd (omega (arith, below))))
    by (inr none) = inr (nowhere none)
first_end bytes (suc most) = by (first_end bytes most) (is_end bytes (suc most))
  where
    at_last : (end : ℕ) → end ≤ suc most → IsEnd bytes end → NoEnd bytes most → (IsEnd bytes (suc most) → ⊥) → (end < suc most) ⊎ (suc most ≤ end) → ⊥
    at_last end low is none never (inl less) = none end (omega (arith, less)) is
    at_last end low is none never (inr least) = never (subst (IsEnd bytes) (omega (arith, low, least)) is)

    by : ((end : ℕ) × IsFirstEnd bytes most end) ⊎ NoEnd bytes most → Decided (IsEnd bytes (suc most)) → ((end : ℕ) × IsFirstEnd bytes (suc most) end) ⊎ NoEnd bytes (suc most)
    by (inl found) last = let low = found.1.1 in inl (found.0, (found.1.0, omega (arith, low), found.1.2))
    by (inr none) (inl is) = inl (suc most, (is, omega arith, λ before below end. none before (omega (arith, below)) end))
    by (inr none) (inr never) = inr (λ end low is. at_last end low is none never (cases_lt end (suc most)))

pub is_cut : (bytes : List ℕ) → (cut : Cut) × IsCut bytes cut
is_cut bytes = by (cases_lt (length bytes) 16384)
  where
    short : length bytes < 16384 → ((end : ℕ) × IsFirstEnd bytes (length bytes) end) ⊎ NoEnd bytes (length bytes) → (cut : Cut) × IsCut bytes cut
    short less (inl (end, (is, low, least))) = (Head end, (is, omega (arith, less, low), least))
    short less (inr none) = (NotYet, (less, none))

    long : 16384 ≤ length bytes → ((end : ℕ) × IsFirstEnd bytes 16384 end) ⊎ NoEnd bytes 16384 → (cut : Cut) × IsCut bytes cut
    long more (inl (end, first)) = (Head end, first)
    long more (inr none) = (TooLong, (more, none))

    by : (length bytes < 16384) ⊎ (16384 ≤ length bytes) → (cut : Cut) × IsCut bytes cut
    by (inl less) = short less (first_end bytes (length bytes))
    by (inr more) = long more (first_end bytes 16384)
