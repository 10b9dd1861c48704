-- Bytes of contents that stand one after the other.
use Rattle.std.proofs.Common.{◌≡◌, ◌⊎◌, inl, inr, ℕ, ◌+◌, ◌-◌, ◌≤◌, ◌<◌, min, List, ◌++◌, length, take, drop, sym, ap, ◌∙◌, arith, length-take, length-drop}
use Rattle.std.proofs.lemmas.List.{take_all, take-take, take-append-le, drop-append-le, drop-drop, drop-take, drop_all, append-nil}
use Rattle.std.proofs.lemmas.Bool.{cases_lt}
use Rattle.std.proofs.Math.Seq.{take-append-add}

-- a front of two lists, the first of which is taken up to its end, or the front ends in it
take_two : (n left : ℕ) (x rest : List ℕ) → n ≡ min (length x) left → take left (x ++ rest) ≡ take n x ++ take (left - n) rest
take_two n left x rest is = by_case (cases_lt left (length x))
  where
    by_case : (left < length x) ⊎ (length x ≤ left) → take left (x ++ rest) ≡ take n x ++ take (left - n) rest
    by_case (inl inside) =
        let all : n ≡ left = omega (arith, is) in
        let none : left - n ≡ 0 = omega arith in
        take-append-le left x rest (omega arith) ∙ ap (λ k. take k x) (sym all) ∙ sym (append-nil (take n x)) ∙ ap (λ k. take n x ++ take k rest) (sym none)
    by_case (inr past) =
        let all : n ≡ length x = omega (arith, is) in
        let split : length x + (left - n) ≡ left = omega arith in
        ap (λ k. take k (x ++ rest)) (sym split) ∙ take-append-add x rest (left - n) ∙ ap (λ w. w ++ take (left - n) rest) (sym (take_all n x (omega arith)))

-- what is wanted begins in the first piece
pub begins_here : (m rest : List ℕ) (skip left n : ℕ) → skip ≤ length m → n ≡ min (length m - skip) left
    → take left (drop skip (m ++ rest)) ≡ take n (drop skip m) ++ take (left - n) (drop 0 rest)
begins_here m rest skip left n within is =
    ap (take left) (drop-append-le skip m rest within) ∙ take_two n left (drop skip m) rest (omega (arith, is, length-drop skip m))

-- what is wanted begins behind the first piece
pub begins_behind : (m rest : List ℕ) (skip left : ℕ) → length m ≤ skip → take left (drop skip (m ++ rest)) ≡ take left (drop (skip - length m) rest)
begins_behind m rest skip left past =
    let split : length m + (skip - length m) ≡ skip = omega arith in
    ap (λ k. take left (drop k (m ++ rest))) (sym split)
    ∙ ap (take left) (sym (drop-drop (skip - length m) (length m) (m ++ rest)))
    ∙ ap (λ w. take left (drop (skip - length m) w)) (drop-append-le (length m) m rest (omega arith) ∙ ap (λ w. w ++ rest) (drop_all (length m) m (omega arith)))

-- a part of a part
pub part_of_part : (l : List ℕ) (from len at most : ℕ) → take most (drop at (take len (drop from l))) ≡ take (min most (len - at)) (drop (from + at) l)
part_of_part l from len at most = by_case (cases_lt at len)
  where
    by_case : (at < len) ⊎ (len ≤ at) → take most (drop at (take len (drop from l))) ≡ take (min most (len - at)) (drop (from + at) l)
    by_case (inl inside) =
        let split : at + (len - at) ≡ len = omega arith in
        ap (λ k. take most (drop at (take k (drop from l)))) (sym split)
        ∙ ap (take most) (drop-take at (len - at) (drop from l))
        ∙ front_of_front (len - at) (drop at (drop from l))
        ∙ ap (take (min most (len - at))) (drop-drop at from l)
      where
        front_of_front : (k : ℕ) (w : List ℕ) → take most (take k w) ≡ take (min most k) w
        front_of_front k w = shorter (cases_lt k most)
          where
            shorter : (k < most) ⊎ (most ≤ k) → take most (take k w) ≡ take (min most k) w
            shorter (inl less) =
                let is : min most k ≡ k = omega arith in
                take_all most (take k w) (omega (arith, length-take k w)) ∙ ap (λ j. take j w) (sym is)
            shorter (inr more) =
                let is : min most k ≡ most = omega arith in
                take-take most k w more ∙ ap (λ j. take j w) (sym is)
    by_case (inr past) =
        let none : min most (len - at) ≡ 0 = omega arith in
        take_all most (drop at (take len (drop from l))) (omega (arith, length-drop at (take len (drop from l)), length-take len (drop from l)))
        ∙ drop_all at (take len (drop from l)) (omega (arith, length-take len (drop from l)))
        ∙ ap (λ k. take k (drop (from + at) l)) (sym none)
