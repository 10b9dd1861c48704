-- The fronts of bytes are cut as the whole.
use Rattle.std.proofs.Common.{◌≡◌, ℕ, ◌+◌, ◌<◌, ◌≤◌, ◌⊎◌, inl, inr, List, ◌++◌, length, ap, refl, subst, take, slice_index, sym, ◌∙◌, arith}
use Rattle.std.proofs.lemmas.List.{length-take, length-append, get_or-take}
use Rattle.std.proofs.Math.Seq.{take-append_seam}
use Rattle.std.proofs.lemmas.Bool.{cases_lt}
use Rattle.http_edge.specs.Cut.{Stands, IsEmptyLine, HasBegun, IsEnd, NoEnd, IsCut}
use Rattle.http_edge.specs.declared.cut.Cut.{Cut}
use Rattle.http_edge.specs.declared.cut.Cut.TheVariants.{Head, NotYet, TooLong}
use Rattle.http_edge.proofs.Ends.{ends_within}

below_both : (bytes : List ℕ) (k at : ℕ) → at < length (take k bytes) → (at < k) × (at < length bytes)
below_both bytes k at within = let size = length-take k bytes in (omega (arith, within, size), omega (arith, within, size))

same_byte : (bytes : List ℕ) (k at : ℕ) → at < length (take k bytes) → slice_index (take k bytes) at ≡ slice_index bytes at
same_byte bytes k at within = get_or-take k bytes at 0 (below_both bytes k at within).0

stands_whole : (bytes : List ℕ) (k at byte : ℕ) → Stands (take k bytes) at byte → Stands bytes at byte
stands_whole bytes k at byte (within, is) = ((below_both bytes k at within).1, sym (same_byte bytes k at within) ∙ is)

stands_front : (bytes : List ℕ) (k at byte : ℕ) → at < k → Stands bytes at byte → Stands (take k bytes) at byte
stands_front bytes k at byte below (within, is) = let size = length-take k bytes in (omega (arith, below, within, size), get_or-take k bytes at 0 below ∙ is)

line_whole : (bytes : List ℕ) (k start end : ℕ) → IsEmptyLine (take k bytes) start end → IsEmptyLine bytes start end
line_whole bytes k start end (inl (is, first, second)) = inl (is, stands_whole bytes k start 10 first, stands_whole bytes k (start + 1) 10 second)
line_whole bytes k start end (inr (is, first, second, third)) =
    inr (is, stands_whole bytes k start 10 first, stands_whole bytes k (start + 1) 13 second, stands_whole bytes k (start + 2) 10 third)

line_front : (bytes : List ℕ) (k start end : ℕ) → end ≤ k → IsEmptyLine bytes start end → IsEmptyLine (take k bytes) start end
line_front bytes k start end most (inl (is, first, second)) =
    inl (is, stands_front bytes k start 10 (omega (arith, most, is)) first, stands_front bytes k (start + 1) 10 (omega (arith, most, is)) second)
line_front bytes k start end most (inr (is, first, second, third)) = inr (
  is,
  stands_front bytes k start 10 (omega (arith, most, is)) first,
  stands_front bytes k (start + 1) 13 (omega (arith, most, is)) second,
  stands_front bytes k (start + 2) 10 (omega (arith, most, is)) third,
)

begun_whole : (bytes : List ℕ) (k start : ℕ) → HasBegun (take k bytes) start → HasBegun bytes start
begun_whole bytes k start (at, before, within, not_cr, not_lf) =
    (at, before, (below_both bytes k at within).1, λ is. not_cr (same_byte bytes k at within ∙ is), λ is. not_lf (same_byte bytes k at within ∙ is))

begun_front : (bytes : List ℕ) (k start : ℕ) → start < k → HasBegun bytes start → HasBegun (take k bytes) start
begun_front bytes k start below (at, before, within, not_cr, not_lf) =
    let size = length-take k bytes in
    let short : at < k = omega (arith, below, before) in
    let same = get_or-take k bytes at 0 short in
    (at, before, omega (arith, short, within, size), λ is. not_cr (sym same ∙ is), λ is. not_lf (sym same ∙ is))

start_below : (bytes : List ℕ) (start end : ℕ) → IsEmptyLine bytes start end → start < end
start_below bytes start end (inl line) = omega (arith, line.0)
start_below bytes start end (inr line) = omega (arith, line.0)

end_whole : (bytes : List ℕ) (k end : ℕ) → IsEnd (take k bytes) end → IsEnd bytes end
end_whole bytes k end (start, line, begun) = (start, line_whole bytes k start end line, begun_whole bytes k start begun)

end_front : (bytes : List ℕ) (k end : ℕ) → end ≤ k → IsEnd bytes end → IsEnd (take k bytes) end
end_front bytes k end most (start, line, begun) =
    let below = start_below bytes start end line in (start, line_front bytes k start end most line, begun_front bytes k start (omega (arith, below, most)) begun)

pub longer_front : (bytes : List ℕ) (n k : ℕ) → IsCut bytes (Head n) → n ≤ k → IsCut (take k bytes) (Head n)
longer_front bytes n k (is, most, none) front = (end_front bytes k n front is, most, λ before below end. none before below (end_whole bytes k before end))

pub shorter_front : (bytes : List ℕ) (n k : ℕ) → IsCut bytes (Head n) → k < n → IsCut (take k bytes) NotYet
shorter_front bytes n k (is, most, none) front =
    let size = length-take k bytes in
    (omega (arith, front, most, size), λ end within ends. none end (omega (arith, within, size, front)) (end_whole bytes k end ends))

pub front_not_yet : (bytes : List ℕ) (k : ℕ) → IsCut bytes NotYet → IsCut (take k bytes) NotYet
front_not_yet bytes k (short, none) =
    let size = length-take k bytes in
    (omega (arith, short, size), λ end within ends. none end (omega (arith, within, size)) (end_whole bytes k end ends))

-- the bytes that a former call has seen have no end
none_by : (bytes : List ℕ) (seen : ℕ) → seen ≤ length bytes → IsCut (take seen bytes) NotYet → (seen < 16384) × NoEnd bytes seen
none_by bytes seen within (short, none) =
    let size = length-take seen bytes in
    (omega (arith, short, size, within), λ end most is. none end (omega (arith, size, within, most)) (end_front bytes seen end most is))

none_at_start : (bytes : List ℕ) (seen : ℕ) → seen ≤ 0 → (seen < 16384) × NoEnd bytes seen
none_at_start bytes seen nothing = (omega (arith, nothing), λ end most (start, line, begun). let below = start_below bytes start end line in absurd (omega (arith, nothing, most, below)))

none_or : (bytes : List ℕ) (seen : ℕ) → seen ≤ length bytes → (0 < seen → IsCut (take seen bytes) NotYet) → (0 < seen) ⊎ (seen ≤ 0) → (seen < 16384) × NoEnd bytes seen
none_or bytes seen within none (inl some) = none_by bytes seen within (none some)
none_or bytes seen within none (inr nothing) = none_at_start bytes seen nothing

pub none_seen : (bytes : List ℕ) (seen : ℕ) → (0 < seen → IsCut (take seen bytes) NotYet) → seen ≤ length bytes → (seen < 16384) × NoEnd bytes seen
none_seen bytes seen none within = none_or bytes seen within none (cases_lt 0 seen)

-- ---- one cut

pub end_within : (bytes : List ℕ) (end : ℕ) → IsEnd bytes end → end ≤ length bytes
end_within bytes end (start, line, begun) = ends_within bytes start end line

-- the ends of two heads
same_end : (bytes : List ℕ) (n m : ℕ) → IsCut bytes (Head n) → IsCut bytes (Head m) → (n < m) ⊎ (m ≤ n) → (m < n) ⊎ (n ≤ m) → n ≡ m
same_end bytes n m first second (inl below) other = absurd (second.2 n below first.0)
same_end bytes n m first second (inr least) (inl below) = absurd (first.2 m below second.0)
same_end bytes n m first second (inr least) (inr most) = omega arith

pub one_cut : (bytes : List ℕ) (a b : Cut) → IsCut bytes a → IsCut bytes b → a ≡ b
one_cut bytes (Head n) (Head m) first second = ap Head (same_end bytes n m first second (cases_lt n m) (cases_lt m n))
one_cut bytes (Head n) NotYet first second = absurd (second.1 n (end_within bytes n first.0) first.0)
one_cut bytes (Head n) TooLong first second = absurd (second.1 n first.1 first.0)
one_cut bytes NotYet (Head m) first second = absurd (first.1 m (end_within bytes m second.0) second.0)
one_cut bytes NotYet NotYet first second = refl
one_cut bytes NotYet TooLong first second = absurd (omega (arith, first.0, second.0))
one_cut bytes TooLong (Head m) first second = absurd (first.1 m second.1 second.0)
one_cut bytes TooLong NotYet first second = absurd (omega (arith, first.0, second.0))
one_cut bytes TooLong TooLong first second = refl

-- ---- bytes that come later

-- what is said of the front of the longer bytes
in_front : (bytes more : List ℕ) → take (length bytes) (bytes ++ more) ≡ bytes
in_front bytes more = take-append_seam bytes more

pub head_further : (bytes more : List ℕ) (n : ℕ) → IsCut bytes (Head n) → IsCut (bytes ++ more) (Head n)
head_further bytes more n cut =
    let P : List ℕ → Type 0 = λ front. IsCut front (Head n) in
    let (is, most, none) = subst P (sym (in_front bytes more)) cut in
    let within = end_within bytes n cut.0 in
    (end_whole (bytes ++ more) (length bytes) n is, most, λ before below end. none before below (end_front (bytes ++ more) (length bytes) before (omega (arith, below, within)) end))

pub long_further : (bytes more : List ℕ) → IsCut bytes TooLong → IsCut (bytes ++ more) TooLong
long_further bytes more cut =
    let P : List ℕ → Type 0 = λ front. IsCut front TooLong in
    let (long, none) = subst P (sym (in_front bytes more)) cut in
    let size = length-append bytes more in
    let wide = cut.0 in
    (omega (arith, size, wide), λ end most is. none end most (end_front (bytes ++ more) (length bytes) end (omega (arith, most, wide)) is))
