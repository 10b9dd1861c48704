-- What is found and kept of a list, and of what a test leaves of it.
use Rattle.std.proofs.Common.{◌≡◌, Bool, true, false, ◌&&◌, List, [], ◌∷◌, All, Some, None, filter, find, if◌then◌else◌, refl, sym, ap, ◌∙◌}
use Rattle.std.specs.List.{AllPairs}
use Rattle.std.proofs.lemmas.Bool.{false≢true}
use Rattle.std.proofs.lemmas.Option.{none-some}
use Rattle.std.proofs.lemmas.List.Elements.{All-head, All-tail}
use Rattle.b2_model.specs.Policy.{items}
use Rattle.sound_states.proofs.Found.{same_found}
use Rattle.sound_states.proofs.Ascending.{pairs_head, pairs_tail}

module _ {X : Type 0} where
  -- ---- what passes one test passes another

  pub kept_twice : (p q : X → Bool) → ((x : X) → p x ≡ true → q x ≡ true) → (xs : List X) → filter p xs ≡ filter p (filter q xs)
  kept_twice p q weaker [] = refl
  kept_twice p q weaker (x ∷ xs) = here (p x) (q x) refl refl (weaker x) (kept_twice p q weaker xs)
    where
      here : (a b : Bool) → p x ≡ a → q x ≡ b → (p x ≡ true → q x ≡ true) → filter p xs ≡ filter p (filter q xs) → filter p (x ∷ xs) ≡ filter p (filter q (x ∷ xs))
      here true true pis qis one rest = rw qis (rw pis (ap (λ ys. x ∷ ys) rest))
      here true false pis qis one rest = absurd (false≢true (sym qis ∙ one pis))
      here false true pis qis one rest = rw qis (rw pis rest)
      here false false pis qis one rest = rw (pis, qis) rest

  pub found_twice : (p q : X → Bool) → ((x : X) → p x ≡ true → q x ≡ true) → (xs : List X) → find p xs ≡ find p (filter q xs)
  found_twice p q weaker [] = refl
  found_twice p q weaker (x ∷ xs) = here (p x) (q x) refl refl (weaker x) (found_twice p q weaker xs)
    where
      here : (a b : Bool) → p x ≡ a → q x ≡ b → (p x ≡ true → q x ≡ true) → find p xs ≡ find p (filter q xs) → find p (x ∷ xs) ≡ find p (filter q (x ∷ xs))
      here true true pis qis one rest = rw qis (rw pis refl)
      here true false pis qis one rest = absurd (false≢true (sym qis ∙ one pis))
      here false true pis qis one rest = rw qis (rw pis rest)
      here false false pis qis one rest = rw (pis, qis) rest

  not_kept : (p : X → Bool) (x : X) (xs : List X) → p x ≡ false → (b : Bool) → filter p (if b then x ∷ xs else xs) ≡ filter p xs
  not_kept p x xs is true = rw is refl
  not_kept p x xs is false = refl

  -- the test f says of what passes p what q and g say
  both_here : (p f q g : X → Bool) (x : X) (xs : List X) (a c d : Bool) → p x ≡ a → q x ≡ c → g x ≡ d → (a ≡ true → f x ≡ (c && d)) → filter p (filter f xs) ≡ filter p (filter g (filter q xs))
      → filter p (filter f (x ∷ xs)) ≡ filter p (filter g (filter q (x ∷ xs)))
  both_here p f q g x xs true true true pis qis gis one rest = rw (one refl, qis) (rw gis (rw pis (ap (λ ys. x ∷ ys) rest)))
  both_here p f q g x xs true true false pis qis gis one rest = rw (one refl, qis) (rw gis rest)
  both_here p f q g x xs true false d pis qis gis one rest = rw (one refl, qis) rest
  both_here p f q g x xs false true true pis qis gis one rest = not_kept p x (filter f xs) pis (f x) ∙ rw qis (rw gis (rw pis rest))
  both_here p f q g x xs false true false pis qis gis one rest = not_kept p x (filter f xs) pis (f x) ∙ rw qis (rw gis rest)
  both_here p f q g x xs false false d pis qis gis one rest = not_kept p x (filter f xs) pis (f x) ∙ rw qis rest

  pub kept_both : (p f q g : X → Bool) → ((x : X) → p x ≡ true → f x ≡ (q x && g x)) → (xs : List X) → filter p (filter f xs) ≡ filter p (filter g (filter q xs))
  kept_both p f q g same [] = refl
  kept_both p f q g same (x ∷ xs) = both_here p f q g x xs (p x) (q x) (g x) refl refl refl (same x) (kept_both p f q g same xs)

  -- ---- one is found

  -- also among those that pass another test, where it passes that
  pub found_kept : (p q : X → Bool) (xs : List X) (x : X) → find p xs ≡ Some x → q x ≡ true → find p (filter q xs) ≡ Some x
  found_kept p q [] x is passes = is
  found_kept p q (y ∷ ys) x is passes = here (p y) (q y) refl refl is (λ more. found_kept p q ys x more passes)
    where
      here : (a b : Bool) → p y ≡ a → q y ≡ b → (if a then Some y else find p ys) ≡ Some x → (find p ys ≡ Some x → find p (filter q ys) ≡ Some x) → find p (filter q (y ∷ ys)) ≡ Some x
      here true true pis qis at rest = rw qis (rw pis at)
      here true false pis qis at rest = absurd (false≢true (sym qis ∙ ap q (same_found y x at) ∙ passes))
      here false true pis qis at rest = rw qis (rw pis (rest at))
      here false false pis qis at rest = rw qis (rest at)

  -- of a list one passes at most
  abbrev pub AtMostOne : (X → Bool) → List X → Type 0
  AtMostOne p xs = AllPairs (λ x y. p x ≡ true → p y ≡ false) xs

  none_kept : (p q : X → Bool) (xs : List X) → All (λ x. p x ≡ false) xs → find p (filter q xs) ≡ None
  none_kept p q [] none = refl
  none_kept p q (x ∷ xs) none = here (q x) refl (none_kept p q xs (All-tail (λ x. p x ≡ false) x xs none))
    where
      here : (b : Bool) → q x ≡ b → find p (filter q xs) ≡ None → find p (filter q (x ∷ xs)) ≡ None
      here true qis rest = let pis : p x ≡ false = All-head (λ x. p x ≡ false) x xs none in rw qis (rw pis rest)
      here false qis rest = rw qis rest

  others_fail : (p : X → Bool) (x : X) (xs : List X) → p x ≡ true → AtMostOne p (x ∷ xs) → All (λ y. p y ≡ false) xs
  others_fail p x xs pis one k d within = pairs_head (λ x y. p x ≡ true → p y ≡ false) x xs one k d within pis

  -- the one that passes both is found
  pub found_alone : (p q : X → Bool) (xs : List X) (x : X) → AtMostOne p xs → find p (filter q xs) ≡ Some x → find p xs ≡ Some x
  found_alone p q [] x one is = is
  found_alone p q (y ∷ ys) x one is =
      here (p y) (q y) refl refl is (λ more. found_alone p q ys x (pairs_tail (λ x y. p x ≡ true → p y ≡ false) y ys one) more)
    where
      here : (a b : Bool) → p y ≡ a → q y ≡ b → find p (if b then y ∷ filter q ys else filter q ys) ≡ Some x → (find p (filter q ys) ≡ Some x → find p ys ≡ Some x) → (if a then Some y else find p ys) ≡ Some x
      here true true pis qis found rest = rw pis at found
      here true false pis qis found rest = let gone = none_kept p q ys (others_fail p y ys pis one) in absurd (none-some x (sym gone ∙ found))
      here false true pis qis found rest = rest (rw pis at found)
      here false false pis qis found rest = rest found

  -- and no other is kept
  pub one_kept : (p : X → Bool) (xs : List X) → AtMostOne p xs → filter p xs ≡ items (find p xs)
  one_kept p [] one = refl
  one_kept p (x ∷ xs) one = here (p x) refl (one_kept p xs (pairs_tail (λ x y. p x ≡ true → p y ≡ false) x xs one))
    where
      none : (ys : List X) → All (λ y. p y ≡ false) ys → filter p ys ≡ []
      none [] each = refl
      none (y ∷ ys) each = let pis : p y ≡ false = All-head (λ y. p y ≡ false) y ys each in rw pis (none ys (All-tail (λ y. p y ≡ false) y ys each))

      here : (b : Bool) → p x ≡ b → filter p xs ≡ items (find p xs) → filter p (x ∷ xs) ≡ items (find p (x ∷ xs))
      here true pis rest = rw pis (ap (λ ys. x ∷ ys) (none xs (others_fail p x xs pis one)))
      here false pis rest = rw pis rest
