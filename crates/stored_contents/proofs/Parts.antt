-- The bytes of contents that are pinned, one after the other.
use Rattle.std.proofs.Common.{◌≡◌, ◌⊎◌, inl, inr, ℕ, zero, suc, ◌+◌, ◌-◌, ◌≤◌, ◌<◌, min, List, [], ◌∷◌, ◌++◌, length, get_or, take, drop, map, refl, sym, ap, ◌∙◌, arith, length-take, length-drop, length-append}
use Rattle.std.specs.List.{flat_map}
use Rattle.std.proofs.lemmas.Bool.{cases_lt}
use Rattle.std.proofs.lemmas.List.{append-nil, append_assoc, drop_more, drop_all, length-replicate}
use Rattle.b2_base.specs.declared.extent.Extent.{Extent}
use Rattle.blob_extents.specs.declared.states.Pin.{Pin}
use Rattle.blob_extents.specs.States.{pin_extent}
use Rattle.stored_contents.specs.Reads.{zeros_of}
use Rattle.stored_contents.proofs.Pieces.{begins_here, begins_behind, part_of_part}

abbrev whole : (Extent → List ℕ) → List Pin → List ℕ
whole meaning pins = flat_map meaning (map pin_extent pins)

-- what is wanted of a piece and of those behind it
pub two_parts : (m rest : List ℕ) (skip left n : ℕ) → n ≡ min (length m - skip) left
    → take left (drop skip (m ++ rest)) ≡ take n (drop skip m) ++ take (left - n) (drop (skip - length m) rest)
two_parts m rest skip left n is = by_case (cases_lt skip (length m))
  where
    by_case : (skip < length m) ⊎ (length m ≤ skip) → take left (drop skip (m ++ rest)) ≡ take n (drop skip m) ++ take (left - n) (drop (skip - length m) rest)
    by_case (inl here) =
        let front : skip - length m ≡ 0 = omega arith in
        begins_here m rest skip left n (omega arith) is ∙ ap (λ k. take n (drop skip m) ++ take (left - n) (drop k rest)) (sym front)
    by_case (inr behind) =
        let none : n ≡ 0 = omega (arith, is) in
        let all : left - n ≡ left = omega (arith, none) in
        begins_behind m rest skip left behind
        ∙ ap (λ k. take k (drop (skip - length m) rest)) (sym all)
        ∙ ap (λ k. take k (drop skip m) ++ take (left - n) (drop (skip - length m) rest)) (sym none)

-- one of the pins, of which so many bytes are read
module _ (meaning : Extent → List ℕ) (pins : List Pin) (i : ℕ) (pin : Pin) (skip after left n : ℕ)
    (within : i < length pins)
    (here : pin ≡ get_or pins i pin)
    (long : length (meaning (pin_extent pin)) ≡ (pin_extent pin).len)
    (count : n ≡ min ((pin_extent pin).len - skip) left)
    (next : after ≡ skip - (pin_extent pin).len)
  where
    this_part : take left (drop skip (whole meaning (drop i pins))) ≡ take n (drop skip (meaning (pin_extent pin))) ++ take (left - n) (drop after (whole meaning (drop (i + 1) pins)))
    this_part =
        ap (λ l. take left (drop skip (whole meaning l))) (drop_more pins i pin within ∙ ap (λ p. p ∷ drop (i + 1) pins) (sym here))
        ∙ two_parts (meaning (pin_extent pin)) (whole meaning (drop (i + 1) pins)) skip left n (omega (arith, count, long))
        ∙ ap (λ k. take n (drop skip (meaning (pin_extent pin))) ++ take (left - n) (drop k (whole meaning (drop (i + 1) pins)))) (ap (λ k. skip - k) long ∙ sym next)

    pub part_read : (bytes more all : List ℕ) → more ≡ bytes ++ take n (drop skip (meaning (pin_extent pin)))
        → bytes ++ take left (drop skip (whole meaning (drop i pins))) ≡ all
        → more ++ take (left - n) (drop after (whole meaning (drop (i + 1) pins))) ≡ all
    part_read bytes more all is so_far =
        ap (λ l. l ++ take (left - n) (drop after (whole meaning (drop (i + 1) pins)))) is
        ∙ append_assoc bytes (take n (drop skip (meaning (pin_extent pin)))) (take (left - n) (drop after (whole meaning (drop (i + 1) pins))))
        ∙ ap (λ l. bytes ++ l) (sym this_part)
        ∙ so_far

    pub part_counted : (bytes more all : ℕ) → more ≡ bytes + n
        → bytes + length (take left (drop skip (whole meaning (drop i pins)))) ≡ all
        → more + length (take (left - n) (drop after (whole meaning (drop (i + 1) pins)))) ≡ all
    part_counted bytes more all is so_far =
        let x = drop skip (meaning (pin_extent pin)) in
        let y = take (left - n) (drop after (whole meaning (drop (i + 1) pins))) in
        let both : length (take left (drop skip (whole meaning (drop i pins)))) ≡ length (take n x) + length y = ap length this_part ∙ length-append (take n x) y in
        let first : length (take n x) ≡ n = omega (arith, length-take n x, length-drop skip (meaning (pin_extent pin)), count, long) in
        omega (arith, both, first, is, so_far)

pub zeros_long : (e : Extent) → length (zeros_of e) ≡ e.len
zeros_long e = length-replicate {A = ℕ} e.len 0

-- behind the last pin
pub nothing_left : (meaning : Extent → List ℕ) (pins : List Pin) (i skip left : ℕ) → length pins ≤ i → take left (drop skip (whole meaning (drop i pins))) ≡ []
nothing_left meaning pins i skip left past =
    ap (λ l. take left (drop skip (whole meaning l))) (drop_all i pins past) ∙ ap (take left) (drop_all skip [] (omega arith)) ∙ of_none left
  where
    of_none : (k : ℕ) → take {A = ℕ} k [] ≡ []
    of_none zero = refl
    of_none (suc k) = refl

pub all_read : (meaning : Extent → List ℕ) (pins : List Pin) (i skip left from len at most first most_left : ℕ) (bytes : List ℕ)
    → length pins ≤ i → first ≡ from + at → most_left ≡ min (len - at) most
    → bytes ++ take left (drop skip (whole meaning (drop i pins))) ≡ take most_left (drop first (whole meaning pins))
    → bytes ≡ take most (drop at (take len (drop from (whole meaning pins))))
all_read meaning pins i skip left from len at most first most_left bytes past starts wanted so_far =
    let same : most_left ≡ min most (len - at) = omega (arith, wanted) in
    sym (append-nil bytes)
    ∙ ap (λ l. bytes ++ l) (sym (nothing_left meaning pins i skip left past))
    ∙ so_far
    ∙ ap (λ k. take k (drop first (whole meaning pins))) same
    ∙ ap (λ k. take (min most (len - at)) (drop k (whole meaning pins))) starts
    ∙ sym (part_of_part (whole meaning pins) from len at most)

pub all_counted : (meaning : Extent → List ℕ) (pins : List Pin) (i skip left from len at most first most_left bytes : ℕ)
    → length pins ≤ i → first ≡ from + at → most_left ≡ min (len - at) most
    → bytes + length (take left (drop skip (whole meaning (drop i pins)))) ≡ length (take most_left (drop first (whole meaning pins)))
    → bytes ≡ length (take most (drop at (take len (drop from (whole meaning pins)))))
all_counted meaning pins i skip left from len at most first most_left bytes past starts wanted so_far =
    let same : most_left ≡ min most (len - at) = omega (arith, wanted) in
    let none : length (take left (drop skip (whole meaning (drop i pins)))) ≡ 0 = ap length (nothing_left meaning pins i skip left past) in
    let all : length (take most_left (drop first (whole meaning pins))) ≡ length (take most (drop at (take len (drop from (whole meaning pins))))) =
    ap (λ k. length (take k (drop first (whole meaning pins)))) same
    ∙ ap (λ k. length (take (min most (len - at)) (drop k (whole meaning pins)))) starts
    ∙ ap length (sym (part_of_part (whole meaning pins) from len at most)) in
    omega (arith, none, all, so_far)
