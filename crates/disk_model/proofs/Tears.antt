-- What writes and cuts leave in an area.
use Rattle.std.proofs.Common.{◌≡◌, ◌⊎◌, inl, inr, ℕ, ◌+◌, ◌-◌, ◌≤◌, ◌<◌, min, List, [], ◌++◌, length, take, drop, replicate, refl, sym, ap, ◌∙◌, arith, append_assoc, length-append, take-append-drop}
use Rattle.std.proofs.lemmas.List.{take_all, drop_all, take_at, drop_at, take-take, drop-drop, take_min, take-append-le, drop-append-le, length-replicate, append-nil, drop-take}
use Rattle.std.proofs.lemmas.Bool.{cases_lt}
use Rattle.disk_model.specs.Steps.{written, Torn, Resized}

-- a write that changed nothing
pub torn_not : (at n : ℕ) (old : List ℕ) → Torn at n old old
torn_not at n old = record {
  before = take_min at old;
  after = refl;
  no_shorter = omega arith;
  no_longer = omega arith;
}

-- a cut that changed nothing
pub cut_not : (len : ℕ) (old : List ℕ) → Resized len old old
cut_not len old = record {
  same = refl;
  no_shorter = omega arith;
  no_longer = omega arith;
}

-- a piece written at the end, or before it
pub written-append : (fill : ℕ) (piece old : List ℕ) → written fill (length old) piece old ≡ old ++ piece
written-append fill piece old =
    let none : length old - length old ≡ 0 = omega arith in
    ap (λ l. l ++ replicate (length old - length old) fill ++ piece ++ drop (length old + length piece) old) (take_all (length old) old (omega arith))
    ∙ ap (λ k. old ++ replicate k fill ++ piece ++ drop (length old + length piece) old) none
    ∙ ap (λ l. (old ++ []) ++ piece ++ l) (drop_all (length old + length piece) old (omega arith))
    ∙ append-nil ((old ++ []) ++ piece)
    ∙ ap (λ l. l ++ piece) (append-nil old)

-- a torn write after a front leaves the front
pub torn_after : (at n : ℕ) (old new : List ℕ) → Torn at n old new → (k : ℕ) → k ≤ at → k ≤ length old → take k new ≡ take k old
torn_after at n old new torn k le inside =
    sym (take-take k (min at (length old)) new (omega arith)) ∙ ap (take k) torn.before ∙ take-take k at old le

-- a stretch that a torn write doesn't meet stays
pub torn_elsewhere : (at n : ℕ) (old new : List ℕ) → Torn at n old new → (from len : ℕ) → from + len ≤ length old → (from + len ≤ at) ⊎ (at + n ≤ from) → take len (drop from new) ≡ take len (drop from old)
torn_elsewhere at n old new torn from len inside (inl before) =
    sym (drop-take from len new) ∙ ap (drop from) (torn_after at n old new torn (from + len) before inside) ∙ drop-take from len old
torn_elsewhere at n old new torn from len inside (inr after) =
    ap (take len) (at_rest new ∙ ap (drop (from - (at + n))) torn.after ∙ sym (at_rest old))
  where
    at_rest : (l : List ℕ) → drop from l ≡ drop (from - (at + n)) (drop (at + n) l)
    at_rest l = let whole : (at + n) + (from - (at + n)) ≡ from = omega arith in sym (drop-drop (from - (at + n)) (at + n) l ∙ ap (λ k. drop k l) whole)

-- a piece that is split stands whole again
split_piece : (at here : ℕ) (piece old : List ℕ) → at < length old → here ≡ min (length old - at) (length piece)
    → take here piece ++ (drop (at + here) old ++ drop here piece) ≡ piece ++ drop (at + length piece) old
split_piece at here piece old inside is = by_case (cases_lt (length old - at) (length piece))
  where
    by_case : (length old - at < length piece) ⊎ (length piece ≤ length old - at) → take here piece ++ (drop (at + here) old ++ drop here piece) ≡ piece ++ drop (at + length piece) old
    by_case (inl past) =
        ap (λ l. take here piece ++ (l ++ drop here piece)) (drop_all (at + here) old (omega arith))
        ∙ take-append-drop here piece
        ∙ sym (ap (λ l. piece ++ l) (drop_all (at + length piece) old (omega arith)) ∙ append-nil piece)
    by_case (inr within) =
        let all : here ≡ length piece = omega arith in
        ap (λ l. l ++ (drop (at + here) old ++ drop here piece)) (take_all here piece (omega arith))
        ∙ ap (λ l. piece ++ (drop (at + here) old ++ l)) (drop_all here piece (omega arith))
        ∙ ap (λ l. piece ++ l) (append-nil (drop (at + here) old))
        ∙ ap (λ k. piece ++ drop (at + k) old) all

-- a piece appended as far as it lies past the end, and written over what is there as far as it doesn't
pub over_and_past : (fill at here : ℕ) (piece old : List ℕ) → here ≡ min (length old - at) (length piece)
    → (mid : List ℕ) → mid ≡ old ++ replicate (at - length old) fill ++ drop here piece
    → take at mid ++ take here piece ++ drop (at + here) mid ≡ written fill at piece old
over_and_past fill at here piece old is mid made =
    ap (λ l. take at l ++ take here piece ++ drop (at + here) l) made ∙ by_case (cases_lt at (length old))
  where
    gap : List ℕ
    gap = replicate (at - length old) fill

    whole : List ℕ
    whole = old ++ gap ++ drop here piece

    by_case : (at < length old) ⊎ (length old ≤ at) → take at whole ++ take here piece ++ drop (at + here) whole ≡ written fill at piece old
    by_case (inl inside) =
        let none : at - length old ≡ 0 = omega arith in
        let flat : whole ≡ old ++ drop here piece = ap (λ k. old ++ replicate k fill ++ drop here piece) none ∙ ap (λ l. l ++ drop here piece) (append-nil old) in
        let right : written fill at piece old ≡ take at old ++ (piece ++ drop (at + length piece) old) =
        ap (λ k. take at old ++ replicate k fill ++ piece ++ drop (at + length piece) old) none
        ∙ ap (λ l. l ++ piece ++ drop (at + length piece) old) (append-nil (take at old))
        ∙ append_assoc (take at old) piece (drop (at + length piece) old) in
        ap (λ l. take at l ++ take here piece ++ drop (at + here) l) flat
        ∙ ap (λ l. l ++ take here piece ++ drop (at + here) (old ++ drop here piece)) (take-append-le at old (drop here piece) (omega arith))
        ∙ ap (λ l. take at old ++ take here piece ++ l) (drop-append-le (at + here) old (drop here piece) (omega arith))
        ∙ append_assoc (take at old) (take here piece) (drop (at + here) old ++ drop here piece)
        ∙ ap (λ l. take at old ++ l) (split_piece at here piece old inside is)
        ∙ sym right
    by_case (inr past) =
        let none : here ≡ 0 = omega arith in
        let long : length (old ++ gap) ≡ at = omega (arith, length-append old gap, length-replicate (at - length old) fill) in
        let place : at + here ≡ at = omega arith in
        ap (λ l. l ++ take here piece ++ drop (at + here) whole) (take_at (old ++ gap) (drop here piece) at long)
        ∙ ap (λ k. (old ++ gap) ++ take here piece ++ drop k whole) place
        ∙ ap (λ l. (old ++ gap) ++ take here piece ++ l) (drop_at (old ++ gap) (drop here piece) at long)
        ∙ append_assoc (old ++ gap) (take here piece) (drop here piece)
        ∙ ap (λ l. (old ++ gap) ++ l) (take-append-drop here piece)
        ∙ sym (append-nil ((old ++ gap) ++ piece))
        ∙ ap (λ l. (old ++ gap) ++ piece ++ l) (sym (drop_all (at + length piece) old (omega arith)))
        ∙ ap (λ l. l ++ gap ++ piece ++ drop (at + length piece) old) (sym (take_all at old past))

-- bytes that were changed in place, of the same length
pub in_place : (n : ℕ) (new old : List ℕ) → length new ≡ length old → n ≡ length old → take n (new ++ drop (length new) old) ≡ new
in_place n new old same is =
    ap (λ l. take n (new ++ l)) (drop_all (length new) old (omega arith)) ∙ ap (take n) (append-nil new) ∙ take_all n new (omega arith)
