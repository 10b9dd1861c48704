-- What the items of a list hold, where one is put, taken out or changed.
use Rattle.std.proofs.Common.{◌≡◌, ℕ, nat_lt, Bool, true, false, not, List, [], ◌∷◌, ◌++◌, All, Option, Some, None, map, filter, find, flat_map, if◌then◌else◌, refl, sym, ap, subst, ⊎_elim, append_assoc}
use Rattle.std.specs.List.{AllPairs}
use Rattle.std.specs.List.Sorted.{IsPermutation}
use Rattle.std.proofs.lemmas.Bool.{cases_Bool}
use Rattle.std.proofs.lemmas.Option.{none-some}
use Rattle.std.proofs.lemmas.List.Elements.{All-head, All-tail}
use Rattle.std.proofs.lemmas.List.Sorted.{IsPermutation-refl, IsPermutation-trans, IsPermutation-append_left, IsPermutation-append_right, IsPermutation-append_comm}
use Rattle.b2_model.specs.Lists.{put_by}
use Rattle.sound_states.proofs.Ascending.{pairs_head, pairs_tail}
use Rattle.sound_states.proofs.Found.{same_found}

-- what stands behind goes to the front
pub moved : {C : Type 0} (a b c : List C) → IsPermutation (a ++ (b ++ c)) (b ++ (a ++ c))
moved a b c =
    subst (λ l. IsPermutation l (b ++ (a ++ c))) (append_assoc a b c)
    (subst (λ l. IsPermutation ((a ++ b) ++ c) l) (append_assoc b a c)
    (IsPermutation-append_left c (a ++ b) (b ++ a) (IsPermutation-append_comm a b)))

-- what is in the middle goes to the front
pub between : {C : Type 0} (a b c : List C) → IsPermutation (a ++ (b ++ c)) ((b ++ a) ++ c)
between a b c = subst (IsPermutation (a ++ (b ++ c))) (sym (append_assoc b a c)) (moved a b c)

pub pairs_from : {X : Type 0} (R S : X → X → Type 0) → ((x y : X) → R x y → S x y) → (xs : List X) → AllPairs R xs → AllPairs S xs
pairs_from R S each xs pairs i j d before within = each _ _ (pairs i j d before within)

module _ {X C : Type 0} (g : X → List C) where
  -- what an item holds, where there is one
  abbrev pub of_found : Option X → List C
  of_found None = []
  of_found (Some x) = g x

  pub put_holds : (num : X → ℕ) (x : X) (xs : List X) → IsPermutation (g x ++ flat_map g xs) (flat_map g (put_by num x xs))
  put_holds num x [] = IsPermutation-refl (g x ++ [])
  put_holds num x (y ∷ ys) = ⊎_elim
      (λ (before : nat_lt (num x) (num y) ≡ true). rw before (IsPermutation-refl (g x ++ (g y ++ flat_map g ys))))
      (λ (after : nat_lt (num x) (num y) ≡ false).
      rw after (IsPermutation-trans (g x ++ (g y ++ flat_map g ys)) (g y ++ (g x ++ flat_map g ys)) (g y ++ flat_map g (put_by num x ys))
      (moved (g x) (g y) (flat_map g ys))
      (IsPermutation-append_right (g y) (g x ++ flat_map g ys) (flat_map g (put_by num x ys)) (put_holds num x ys))))
      (cases_Bool (nat_lt (num x) (num y)))

  module _ (p : X → Bool) where
    -- at most one item passes
    abbrev pub IsOne : List X → Type 0
    IsOne xs = AllPairs (λ x y. p x ≡ true → p y ≡ false) xs

    abbrev pub at_it : (X → X) → X → X
    at_it f x = if p x then f x else x

    none_taken : (xs : List X) → All (λ x. p x ≡ false) xs → filter (λ x. not (p x)) xs ≡ xs
    none_taken [] none = refl
    none_taken (x ∷ xs) none =
        rw (All-head (λ x. p x ≡ false) x xs none) (ap (λ l. x ∷ l) (none_taken xs (All-tail (λ x. p x ≡ false) x xs none)))

    none_changed : (f : X → X) (xs : List X) → All (λ x. p x ≡ false) xs → map (at_it f) xs ≡ xs
    none_changed f [] none = refl
    none_changed f (x ∷ xs) none =
        rw (All-head (λ x. p x ≡ false) x xs none) (ap (λ l. x ∷ l) (none_changed f xs (All-tail (λ x. p x ≡ false) x xs none)))

    others : (x : X) (xs : List X) → IsOne (x ∷ xs) → p x ≡ true → All (λ y. p y ≡ false) xs
    others x xs one it k d within = pairs_head (λ x y. p x ≡ true → p y ≡ false) x xs one k d within it

    later : (x : X) (xs : List X) → IsOne (x ∷ xs) → IsOne xs
    later x xs one = pairs_tail (λ x y. p x ≡ true → p y ≡ false) x xs one

    -- what the list holds is what the one item holds and what the others do
    pub taken_holds : (xs : List X) → IsOne xs → IsPermutation (flat_map g xs) (of_found (find p xs) ++ flat_map g (filter (λ x. not (p x)) xs))
    taken_holds [] one = IsPermutation-refl []
    taken_holds (x ∷ xs) one = ⊎_elim
        (λ (it : p x ≡ true).
        let rest : filter (λ y. not (p y)) xs ≡ xs = none_taken xs (others x xs one it) in
        rw (it, rest) (IsPermutation-refl (g x ++ flat_map g xs)))
        (λ (other : p x ≡ false).
        let a = of_found (find p xs) in
        let rest = flat_map g (filter (λ y. not (p y)) xs) in
        rw other (IsPermutation-trans (g x ++ flat_map g xs) (g x ++ (a ++ rest)) (a ++ (g x ++ rest))
        (IsPermutation-append_right (g x) (flat_map g xs) (a ++ rest) (taken_holds xs (later x xs one)))
        (moved (g x) a rest)))
        (cases_Bool (p x))

    -- what the one item held beside these is what it holds beside those, and so it is of the list
    pub changed_holds : (f : X → X) (before after : List C) (x : X) (xs : List X) → IsOne xs → find p xs ≡ Some x → IsPermutation (before ++ g x) (after ++ g (f x))
        → IsPermutation (before ++ flat_map g xs) (after ++ flat_map g (map (at_it f) xs))
    changed_holds f before after x [] one is holds = absurd (none-some x is)
    changed_holds f before after x (y ∷ ys) one is holds = ⊎_elim
        (λ (it : p y ≡ true).
        let rest : map (at_it f) ys ≡ ys = none_changed f ys (others y ys one it) in
        let same : y ≡ x = same_found y x (subst (λ b. (if b then Some y else find p ys) ≡ Some x) it is) in
        let here : IsPermutation (before ++ g y) (after ++ g (f y)) = subst (λ z. IsPermutation (before ++ g z) (after ++ g (f z))) (sym same) holds in
        rw (it, rest) (beside (g y) (g (f y)) (flat_map g ys) here))
        (λ (other : p y ≡ false).
        let found : find p ys ≡ Some x = subst (λ b. (if b then Some y else find p ys) ≡ Some x) other is in
        rw other (behind (g y) (flat_map g ys) (flat_map g (map (at_it f) ys)) (changed_holds f before after x ys (later y ys one) found holds)))
        (cases_Bool (p y))
      where
        beside : (a b r : List C) → IsPermutation (before ++ a) (after ++ b) → IsPermutation (before ++ (a ++ r)) (after ++ (b ++ r))
        beside a b r both =
            subst (λ l. IsPermutation l (after ++ (b ++ r))) (append_assoc before a r)
            (subst (λ l. IsPermutation ((before ++ a) ++ r) l) (append_assoc after b r)
            (IsPermutation-append_left r (before ++ a) (after ++ b) both))

        behind : (a r s : List C) → IsPermutation (before ++ r) (after ++ s) → IsPermutation (before ++ (a ++ r)) (after ++ (a ++ s))
        behind a r s both =
            IsPermutation-trans (before ++ (a ++ r)) (a ++ (before ++ r)) (after ++ (a ++ s)) (moved before a r)
            (IsPermutation-trans (a ++ (before ++ r)) (a ++ (after ++ s)) (after ++ (a ++ s))
            (IsPermutation-append_right a (before ++ r) (after ++ s) both) (moved a after s))
