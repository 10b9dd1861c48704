-- Lists with a last item, and pieces of lists.
use Rattle.std.proofs.Common.{◌≡◌, ℕ, zero, suc, ◌<◌, ◌≤◌, ◌==◌, Bool, true, false, List, [], ◌∷◌, ◌++◌, All, Some, map, filter, find, length, take, drop, if◌then◌else◌, refl, ap, ◌∙◌, arith, length-drop}
use Rattle.std.specs.List.{AllPairs}
use Rattle.std.proofs.lemmas.Bool.Decides.{nat_tests}
use Rattle.std.proofs.lemmas.List.Elements.{All-nil, All-cons, All-head, All-tail}
use Rattle.b2_model.specs.Lists.{is_empty}
use Rattle.b2_model.specs.Stored.{pieces_of}
use Rattle.sound_states.proofs.Ascending.{pairs_head, pairs_tail}

-- ---- what stands before an item

module _ {X : Type 0} where
  pub at_item : (P : X → Type 0) (xs : List X) (y : X) (ys : List X) → All P (xs ++ y ∷ ys) → P y
  at_item P [] y ys each = All-head P y ys each
  at_item P (x ∷ xs) y ys each = at_item P xs y ys (All-tail P x (xs ++ y ∷ ys) each)

  pub before_item : (R : X → X → Type 0) (xs : List X) (y : X) (ys : List X) → AllPairs R (xs ++ y ∷ ys) → All (λ x. R x y) xs
  before_item R [] y ys pairs = All-nil _
  before_item R (x ∷ xs) y ys pairs =
      All-cons (λ x. R x y) x xs (at_item (R x) xs y ys (pairs_head R x (xs ++ y ∷ ys) pairs)) (before_item R xs y ys (pairs_tail R x (xs ++ y ∷ ys) pairs))

  -- ---- the last item

  pub find_last : (p : X → Bool) (xs : List X) (x : X) → All (λ y. p y ≡ false) xs → p x ≡ true → find p (xs ++ x ∷ []) ≡ Some x
  find_last p [] x before is = rw is refl
  find_last p (y ∷ ys) x before is =
      let here : p y ≡ false = All-head (λ y. p y ≡ false) y ys before in
      rw here (find_last p ys x (All-tail (λ y. p y ≡ false) y ys before) is)

  pub map_last : (p : X → Bool) (f : X → X) (xs : List X) (x : X) → All (λ y. p y ≡ false) xs → p x ≡ true → map (λ y. if p y then f y else y) (xs ++ x ∷ []) ≡ xs ++ f x ∷ []
  map_last p f [] x before is = ap (λ b. (if b then f x else x) ∷ []) is
  map_last p f (y ∷ ys) x before is =
      let here : p y ≡ false = All-head (λ y. p y ≡ false) y ys before in
      ap (λ b. (if b then f y else y) ∷ map (λ y. if p y then f y else y) (ys ++ x ∷ [])) here
      ∙ ap (λ rest. y ∷ rest) (map_last p f ys x (All-tail (λ y. p y ≡ false) y ys before) is)

  pub filter_all : (p : X → Bool) (xs : List X) → All (λ x. p x ≡ true) xs → filter p xs ≡ xs
  filter_all p [] each = refl
  filter_all p (x ∷ xs) each =
      let here : p x ≡ true = All-head (λ x. p x ≡ true) x xs each in
      rw here (ap (λ rest. x ∷ rest) (filter_all p xs (All-tail (λ x. p x ≡ true) x xs each)))

  -- ---- pieces

  abbrev pub joined : List (List X) → List X
  joined [] = []
  joined (piece ∷ pieces) = piece ++ joined pieces

  take_drop : (n : ℕ) (xs : List X) → take n xs ++ drop n xs ≡ xs
  take_drop zero xs = refl
  take_drop (suc n) [] = refl
  take_drop (suc n) (x ∷ xs) = ap (λ rest. x ∷ rest) (take_drop n xs)

  pub joined_pieces : (k n : ℕ) (xs : List X) → 0 < n → length xs ≤ k → joined (pieces_of k n xs) ≡ xs
  joined_pieces zero n [] some within = refl
  joined_pieces zero n (x ∷ xs) some within = absurd (omega (arith, within))
  joined_pieces (suc k) n [] some within = refl
  joined_pieces (suc k) zero (x ∷ xs) some within = absurd (omega (arith, some))
  joined_pieces (suc k) (suc n) (x ∷ xs) some within =
      let filled : is_empty (x ∷ xs) ≡ false = not_empty (length xs) in
      let rest = joined_pieces k (suc n) (drop n xs) some (dropped n xs k within) in
      ap (λ b. joined (if b then [] else take (suc n) (x ∷ xs) ∷ pieces_of k (suc n) (drop (suc n) (x ∷ xs)))) filled
      ∙ ap (λ ys. take (suc n) (x ∷ xs) ++ ys) rest ∙ take_drop (suc n) (x ∷ xs)
    where
      not_empty : (m : ℕ) → (suc m == 0) ≡ false
      not_empty m = grind (arith, nat_tests)

      dropped : (n : ℕ) (xs : List X) (k : ℕ) → length (x ∷ xs) ≤ suc k → length (drop n xs) ≤ k
      dropped n xs k within = let less = length-drop n xs in omega (arith, less, within)
