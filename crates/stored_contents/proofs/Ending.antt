-- The readers of a number, one after the other.
use Rattle.std.proofs.Common.{◌≡◌, ◌⊎◌, inl, inr, ◌==◌, ◌≤◌, ◌<◌, ℕ, Bool, true, false, cond, nat_lt, find, slice_get, Some, None, List, length, get_or, sym, ap, ◌∙◌}
use Rattle.std.specs.List.{position, position_or_len, remove}
use Rattle.std.proofs.lemmas.Bool.{cases_lt, eqb-true, lt-ltb, ne_eqb}
use Rattle.std.proofs.lemmas.Option.{none-some, slice_get_past, slice_get-get_or}
use Rattle.std.proofs.lemmas.List.Folds.{find_at}
use Rattle.std.proofs.lemmas.List.Quantifiers.{position-Some}
use Rattle.stored_contents.specs.declared.outgoing.Outgoing.{Outgoing}
use Rattle.stored_contents.proofs.Lists.{found_left}

-- none of a list
pub none_found : {X : Type 0} (p : X → Bool) (xs : List X) → position p xs ≡ None → find p xs ≡ None
none_found p xs none = find_at p xs ∙ slice_get_past xs at (past (cases_lt at (length xs)))
  where
    at : ℕ
    at = position_or_len p xs

    past : (at < length xs) ⊎ (length xs ≤ at) → length xs ≤ at
    past (inl before) = absurd (none-some at (sym none ∙ ap (λ b. cond b (Some at) None) (lt-ltb at (length xs) before)))
    past (inr behind) = behind

-- the first of a list
pub first_found : {X : Type 0} (p : X → Bool) (xs : List X) (i : ℕ) (d : X) → position p xs ≡ Some i → find p xs ≡ Some (get_or xs i d)
first_found p xs i d is =
    find_at p xs
    ∙ ap (slice_get xs) (at_place (nat_lt (position_or_len p xs) (length xs)) (position_or_len p xs) i is)
    ∙ slice_get-get_or xs i d (position-Some p xs i d is).0
  where
    at_place : (b : Bool) (n i : ℕ) → cond b (Some n) None ≡ Some i → n ≡ i
    at_place true n i is = cc
    at_place false n i is = absurd (cc)

-- the first reader of a number
module _ (os : List Outgoing) (c i : ℕ) (o : Outgoing) (is : position (λ r. r.reader == c) os ≡ Some i) where
  pub place_within : i < length os
  place_within = (position-Some (λ r. r.reader == c) os i o is).0

  -- those of other numbers stand where they stood
  pub others_left : (q : ℕ) → (c ≡ q → ⊥) → find (λ r. r.reader == q) (remove os i) ≡ find (λ r. r.reader == q) os
  others_left q not =
      let number : (get_or os i o).reader ≡ c = eqb-true (get_or os i o).reader c (position-Some (λ r. r.reader == c) os i o is).1 in
      found_left (λ r. r.reader == q) os i o place_within (ne_eqb (get_or os i o).reader q (λ same. not (sym number ∙ same)))
