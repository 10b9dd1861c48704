-- What stays in a list from which one is taken out, and what is found in it.
use Rattle.std.proofs.Common.{◌≡◌, ◌⊎◌, inl, inr, ℕ, suc, ◌+◌, ◌-◌, ◌≤◌, ◌<◌, Bool, true, false, if◌then◌else◌, Option, Some, None, find, List, [], ◌∷◌, ◌++◌, length, get_or, take, drop, All, Contains, refl, sym, ap, subst, ◌∙◌, arith}
use Rattle.std.specs.List.{AllPairs, flat_map, remove}
use Rattle.std.specs.Option.{option_or}
use Rattle.std.proofs.lemmas.Bool.{cases_lt}
use Rattle.std.proofs.lemmas.Option.{none-some}
use Rattle.std.proofs.lemmas.List.{set_split, set-get_or, get_or_default}
use Rattle.std.proofs.lemmas.List.Concat.{flat_map-append}
use Rattle.std.proofs.lemmas.List.Edits.{length-remove, get_or-remove_below, get_or-remove_above}
use Rattle.std.proofs.lemmas.List.Elements.{All-append, All-take, All-drop, All-from_get_or, Contains-append_left, Contains-append_right}
use Rattle.std.proofs.lemmas.List.Folds.{find-append}

-- the list around one of its places
pub around : {X : Type 0} (xs : List X) (i : ℕ) (d : X) → i < length xs → xs ≡ take i xs ++ get_or xs i d ∷ drop (suc i) xs
around xs i d within = sym (set-get_or xs i d) ∙ set_split xs i (get_or xs i d) within

pub all_left : {X : Type 0} (P : X → Type 0) (xs : List X) (i : ℕ) → All P xs → All P (remove xs i)
all_left P xs i all = All-append P (take i xs) (drop (suc i) xs) (All-take P i xs all) (All-drop P (suc i) xs all)

-- what holds of each two holds of the one that is taken out and each that is left
pub apart_from_left : {X : Type 0} (R : X → X → Type 0) → ((x y : X) → R x y → R y x)
    → (xs : List X) (i : ℕ) (e : X) → i < length xs → get_or xs i e ≡ e → AllPairs R xs → All (R e) (remove xs i)
apart_from_left R turned xs i e within here pairs = All-from_get_or (R e) (remove xs i) e each
  where
    each : (k : ℕ) → k < length (remove xs i) → R e (get_or (remove xs i) k e)
    each k lt = by_place (cases_lt k i)
      where
        long : length (remove xs i) + 1 ≡ length xs
        long = length-remove xs i within

        by_place : (k < i) ⊎ (i ≤ k) → R e (get_or (remove xs i) k e)
        by_place (inl below) =
            subst (R e) (sym (get_or-remove_below xs i e k below within))
            (turned (get_or xs k e) e (subst (R (get_or xs k e)) here (pairs k i e below within)))
        by_place (inr above) =
            subst (R e) (sym (get_or-remove_above xs i e k above within))
            (subst (λ x. R x (get_or xs (k + 1) e)) here (pairs i (k + 1) e (omega arith) (omega (arith, long))))

-- another one is still there
pub still_there : {X : Type 0} (xs : List X) (i : ℕ) (e x : X) → i < length xs → get_or xs i e ≡ e → (e ≡ x → ⊥) → Contains xs x → Contains (remove xs i) x
still_there xs i e x within here other has = by_place (cases_lt has.0 i)
  where
    long : length (remove xs i) + 1 ≡ length xs
    long = length-remove xs i within

    by_place : (has.0 < i) ⊎ (i ≤ has.0) → Contains (remove xs i) x
    by_place (inl below) = (has.0, omega (arith, long), get_or-remove_below xs i x has.0 below within ∙ has.2)
    by_place (inr not_below) = from_there (cases_lt i has.0)
      where
        from_there : (i < has.0) ⊎ (has.0 ≤ i) → Contains (remove xs i) x
        from_there (inl above) =
            let back : has.0 - 1 + 1 ≡ has.0 = omega arith in
            (has.0 - 1, omega (arith, long, has.1), get_or-remove_above xs i x (has.0 - 1) (omega arith) within ∙ ap (λ k. get_or xs k x) back ∙ has.2)
        from_there (inr not_above) =
            let same : has.0 ≡ i = omega arith in
            absurd (other (sym here ∙ get_or_default xs i e x within ∙ ap (λ k. get_or xs k x) (sym same) ∙ has.2))

-- ---- pieces

module _ {X A : Type 0} (f : X → List A) where
  pub flat_around : (xs : List X) (i : ℕ) (d : X) → i < length xs
      → flat_map f xs ≡ flat_map f (take i xs) ++ (f (get_or xs i d) ++ flat_map f (drop (suc i) xs))
  flat_around xs i d within = ap (flat_map f) (around xs i d within) ∙ flat_map-append f (take i xs) (get_or xs i d ∷ drop (suc i) xs)

  -- what is in a piece is in the whole
  pub in_pieces : (xs : List X) (x : X) (a : A) → Contains xs x → Contains (f x) a → Contains (flat_map f xs) a
  in_pieces xs x a has has_it =
      let behind = Contains-append_left (f (get_or xs has.0 x)) (flat_map f (drop (suc has.0) xs)) a (subst (λ y. Contains (f y) a) (sym has.2) has_it) in
      subst (λ l. Contains l a) (sym (flat_around xs has.0 x has.1)) (Contains-append_right (flat_map f (take has.0 xs)) (f (get_or xs has.0 x) ++ flat_map f (drop (suc has.0) xs)) a behind)

-- ---- the first of a kind

module _ {X : Type 0} (p : X → Bool) where
  pub found_there : (xs : List X) (x : X) → find p xs ≡ Some x → Contains xs x
  found_there [] x is = absurd (none-some _ is)
  found_there (y ∷ xs) x is = by (p y) (found_there xs x) is
    where
      by : (b : Bool) → (find p xs ≡ Some x → Contains xs x) → (if b then Some y else find p xs) ≡ Some x → Contains (y ∷ xs) x
      by true behind is = (0, omega arith, of_some y x is)
        where
          of_some : (y x : X) → Some y ≡ Some x → y ≡ x
          of_some y x is = cc
      by false behind is = let there = behind is in (suc there.0, omega (arith, there.1), there.2)

  pub found_more : (xs : List X) (x : X) → find p xs ≡ None → p x ≡ true → find p (xs ++ x ∷ []) ≡ Some x
  found_more xs x none is = find-append p xs (x ∷ []) ∙ ap (λ o. option_or o (find p (x ∷ []))) none ∙ ap (λ b. if b then Some x else None) is

  pub found_still : (xs : List X) (x : X) → p x ≡ false → find p (xs ++ x ∷ []) ≡ find p xs
  found_still xs x is = find-append p xs (x ∷ []) ∙ ap (λ b. option_or (find p xs) (if b then Some x else None)) is ∙ or_none (find p xs)
    where
      or_none : (o : Option X) → option_or o None ≡ o
      or_none None = refl
      or_none (Some y) = refl

  pub found_left : (xs : List X) (i : ℕ) (d : X) → i < length xs → p (get_or xs i d) ≡ false → find p (remove xs i) ≡ find p xs
  found_left xs i d within is =
      find-append p (take i xs) (drop (suc i) xs)
      ∙ ap (λ b. option_or (find p (take i xs)) (if b then Some (get_or xs i d) else find p (drop (suc i) xs))) (sym is)
      ∙ sym (find-append p (take i xs) (get_or xs i d ∷ drop (suc i) xs))
      ∙ ap (find p) (sym (around xs i d within))
