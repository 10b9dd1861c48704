-- A source in memory gives the front of what it has left.
use Rattle.std.proofs.Common.{◌≡◌, ◌<◌, ◌+◌, ◌-◌, ℕ, List, [], ◌++◌, min, length, take, drop, sym, ap, ◌∙◌, arith}
use Rattle.std.proofs.Math.Seq.{take-add}
use Rattle.std.proofs.lemmas.List.{take-append-drop, take_all, drop-drop, drop_all, length-drop}

-- what was copied is the front, and what is left lies behind it
pub reads_front : (bytes : List ℕ) (at n : ℕ) (buf : List ℕ) → n ≡ min (length bytes - at) (length buf)
    → take n buf ≡ take n (drop at bytes)
    → (drop at bytes ≡ take n buf ++ drop (at + n) bytes) × (n ≡ 0 → 0 < length buf → drop (at + n) bytes ≡ [])
reads_front bytes at n buf count same = (
  sym (take-append-drop n (drop at bytes)) ∙ ap (λ front. front ++ drop n (drop at bytes)) (sym same) ∙ ap (λ rest. take n buf ++ rest) (drop-drop n at bytes),
  λ none room. drop_all (at + n) bytes (omega arith),
)

-- a front of what is left makes the front longer
pub front_more : (at n : ℕ) (bytes : List ℕ) → take at bytes ++ take n (take (length bytes - at) (drop at bytes)) ≡ take (at + n) bytes
front_more at n bytes =
    ap (λ rest. take at bytes ++ take n rest) (take_all (length bytes - at) (drop at bytes) (omega (arith, length-drop at bytes)))
    ∙ sym (take-add at n bytes)
