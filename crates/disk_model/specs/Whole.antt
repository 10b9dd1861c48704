-- A whole write or cut is one that a crash may have cut short.
use Rattle.std.proofs.Common.{◌≡◌, ◌⊎◌, inl, inr, ℕ, ◌+◌, ◌-◌, ◌≤◌, ◌<◌, min, max, List, ◌++◌, length, take, drop, replicate, refl, sym, ap, ◌∙◌, arith, append_assoc, length-append, length-take, length-drop}
use Rattle.std.proofs.lemmas.List.{take_all, take_at, drop_at, length-replicate, append-nil}
use Rattle.std.proofs.lemmas.Bool.{cases_lt}
use Rattle.disk_model.specs.Steps.{written, resized, Torn, Resized}

pub length-written : (fill at : ℕ) (piece old : List ℕ) → length (written fill at piece old) ≡ max (length old) (at + length piece)
length-written fill at piece old =
    let tail = drop (at + length piece) old in
    omega (
      arith,
      length-append (take at old ++ replicate (at - length old) fill ++ piece) tail,
      length-append (take at old ++ replicate (at - length old) fill) piece,
      length-append (take at old) (replicate (at - length old) fill),
      length-replicate (at - length old) fill,
      length-take at old,
      length-drop (at + length piece) old,
    )

-- up to the piece
front-length : (fill at : ℕ) (old : List ℕ) → length (take at old ++ replicate (at - length old) fill) ≡ at
front-length fill at old = omega (arith, length-append (take at old) (replicate (at - length old) fill), length-replicate (at - length old) fill, length-take at old)

-- a whole write is one that may have been torn
pub torn_written : (fill at : ℕ) (piece old : List ℕ) → Torn at (length piece) old (written fill at piece old)
torn_written fill at piece old =
    let gap = replicate (at - length old) fill in
    let tail = drop (at + length piece) old in
    let front = take at old ++ gap in
    let cut : length (take at old) ≡ min at (length old) = length-take at old in
    record {
      before = ap (take (min at (length old))) (ap (λ l. l ++ tail) (append_assoc (take at old) gap piece) ∙ append_assoc (take at old) (gap ++ piece) tail) ∙ take_at (take at old) ((gap ++ piece) ++ tail) (min at (length old)) cut;
      after = drop_at (front ++ piece) tail (at + length piece) (omega (arith, length-append front piece, front-length fill at old));
      no_shorter = omega (arith, length-written fill at piece old);
      no_longer = omega (arith, length-written fill at piece old);
    }

pub length-resized : (fill len : ℕ) (old : List ℕ) → length (resized fill len old) ≡ len
length-resized fill len old = omega (arith, length-append (take len old) (replicate (len - length old) fill), length-replicate (len - length old) fill, length-take len old)

-- a whole cut is one that may have been cut short
pub cut_resized : (fill len : ℕ) (old : List ℕ) → Resized len old (resized fill len old)
cut_resized fill len old = record {
  same = front_of (cases_lt len (length old));
  no_shorter = omega (arith, length-resized fill len old);
  no_longer = omega (arith, length-resized fill len old);
}
  where
    added : List ℕ
    added = replicate (len - length old) fill

    long : take (length (resized fill len old)) old ≡ take len old
    long = ap (λ k. take k old) (length-resized fill len old)

    front_of : (len < length old) ⊎ (length old ≤ len) → take (length old) (resized fill len old) ≡ take (length (resized fill len old)) old
    front_of (inl shorter) =
        let none : len - length old ≡ 0 = omega arith in
        let same : resized fill len old ≡ take len old = ap (λ k. take len old ++ replicate k fill) none ∙ append-nil (take len old) in
        ap (take (length old)) same ∙ take_all (length old) (take len old) (omega (arith, length-take len old)) ∙ sym long
    front_of (inr longer) =
        let whole : take len old ≡ old = take_all len old longer in
        ap (λ l. take (length old) (l ++ added)) whole ∙ take_at old added (length old) refl ∙ sym whole ∙ sym long
