-- The pieces of a list, one after the other.
use Rattle.std.proofs.Common.{◌≡◌, ℕ, zero, suc, ◌<◌, ◌≤◌, ◌-◌, Bool, true, false, min, List, [], ◌∷◌, ◌++◌, length, length-drop, map, filter, take, drop, append_assoc, subst, sym, ap, ◌∙◌, ⊎_elim, refl, arith}
use Rattle.std.proofs.lemmas.Bool.{cases_Bool, ne_eqb, eq-eqb}
use Rattle.std.proofs.lemmas.List.{drop_min, map-append, take_min}
use Rattle.std.proofs.lemmas.List.Elements.{filter-append}
use Rattle.b2_model.specs.Lists.{is_empty}
use Rattle.b2_model.specs.Stored.{pieces_of}

module _ {X : Type 0} where
  none_left : (k n : ℕ) (xs : List X) → length xs ≡ 0 → pieces_of k n xs ≡ []
  none_left zero n xs none = refl
  none_left (suc k) n xs none = rw (eq-eqb (length xs) 0 none) refl

  fewer : (n k : ℕ) (xs : List X) → 0 < n → length xs ≤ suc k → length (drop n xs) ≤ k
  fewer n k xs some few = subst (λ m. m ≤ k) (sym (length-drop n xs)) (omega arith)

  -- a bound that is large enough may be any such
  enough : (k j n : ℕ) (xs : List X) → 0 < n → length xs ≤ k → length xs ≤ j → pieces_of k n xs ≡ pieces_of j n xs
  enough zero j n xs some few also = sym (none_left j n xs (omega (arith, few)))
  enough (suc k) zero n xs some few also = none_left (suc k) n xs (omega (arith, also))
  enough (suc k) (suc j) n xs some few also = ⊎_elim
      (λ (none : is_empty xs ≡ true). rw none refl)
      (λ (more : is_empty xs ≡ false). rw more (ap (λ l. take n xs ∷ l) (enough k j n (drop n xs) some (fewer n k xs some few) (fewer n j xs some also))))
      (cases_Bool (is_empty xs))

  first_piece : (k n : ℕ) (xs : List X) → 0 < n → length xs ≡ suc k → pieces_of (length xs) n xs ≡ take n xs ∷ pieces_of (length (drop n xs)) n (drop n xs)
  first_piece k n xs some many =
      ap (λ m. pieces_of m n xs) many
      ∙ rw (ne_eqb (length xs) 0 (λ none. omega (arith, none, many))) (ap (λ l. take n xs ∷ l) (enough k (length (drop n xs)) n (drop n xs) some (fewer n k xs some (omega (arith, many))) (omega arith)))

  -- what comes of the pieces of a list: that of the first, and that of the pieces of what is left
  pub one_piece : {Y : Type 0} (f : List X → Y) (n : ℕ) (xs piece rest : List X) (old new all : List Y) → 0 < n → (length xs ≡ 0 → ⊥) → piece ≡ take (min n (length xs)) xs → rest ≡ drop (min n (length xs)) xs
      → new ≡ old ++ f piece ∷ [] → old ++ map f (pieces_of (length xs) n xs) ≡ all → new ++ map f (pieces_of (length rest) n rest) ≡ all
  one_piece f n xs piece rest old new all some more first left is so_far =
      let front : piece ≡ take n xs = first ∙ take_min n xs in
      let behind : rest ≡ drop n xs = left ∙ drop_min n xs in
      let pieces = first_piece (length xs - 1) n xs some (grind (arith, more)) in
      ap (λ l. l ++ map f (pieces_of (length rest) n rest)) is
      ∙ append_assoc old (f piece ∷ []) (map f (pieces_of (length rest) n rest))
      ∙ ap (λ p. old ++ f p ∷ map f (pieces_of (length rest) n rest)) front
      ∙ ap (λ r. old ++ f (take n xs) ∷ map f (pieces_of (length r) n r)) behind
      ∙ ap (λ l. old ++ map f l) (sym pieces)
      ∙ so_far

  pub no_piece : {Y : Type 0} (f : List X → Y) (n : ℕ) (xs : List X) (old all : List Y) → length xs ≡ 0 → old ++ map f (pieces_of (length xs) n xs) ≡ all → old ++ [] ≡ all
  no_piece f n xs old all none so_far = ap (λ l. old ++ map f l) (sym (none_left (length xs) n xs none)) ∙ so_far

-- what comes of those that pass: that of the first, and that of the others
pub passed_on : {X Y : Type 0} (f : X → Y) (p : X → Bool) (x : X) (left rest : List X) (old new all : List Y) → left ≡ x ∷ rest → new ≡ old ++ map f (filter p (x ∷ []))
    → old ++ map f (filter p left) ≡ all → new ++ map f (filter p rest) ≡ all
passed_on f p x left rest old new all steps is so_far =
    ap (λ l. l ++ map f (filter p rest)) is
    ∙ append_assoc old (map f (filter p (x ∷ []))) (map f (filter p rest))
    ∙ ap (λ l. old ++ l) (sym (map-append f (filter p (x ∷ [])) (filter p rest)) ∙ ap (map f) (sym (filter-append p (x ∷ []) rest)))
    ∙ ap (λ l. old ++ map f (filter p l)) (sym steps)
    ∙ so_far
