-- Members of lists, of rows and of versions.
use Rattle.std.proofs.Common.{◌≡◌, ℕ, suc, zero, ◌<◌, ◌⊎◌, ◌↔◌, Bool, true, false, List, [], ◌∷◌, length, get_or, map, filter, subst, sym, ap, ◌∙◌, inl, inr, ⊎_elim, refl, arith}
use Rattle.std.specs.List.{AllPairs, Contains}
use Rattle.std.proofs.lemmas.Bool.{cases_Bool, false≢true}

module _ {X : Type 0} where
  pub first_or_rest : (x : X) (xs : List X) (y : X) → Contains (x ∷ xs) y ↔ ((x ≡ y) ⊎ Contains xs y)
  first_or_rest x xs y = (λ a. parts a.0 a.1 a.2, λ u. elim u [ inl is ↦ (0, omega arith, is) | inr a ↦ (suc a.0, omega (arith, a.1), a.2) ]) where
    parts : (k : ℕ) → k < length (x ∷ xs) → get_or (x ∷ xs) k y ≡ y → (x ≡ y) ⊎ Contains xs y
    parts zero inside is = inl is
    parts (suc k) inside is = inr (k, omega arith, is)

  pub here : (x : X) (xs : List X) → Contains (x ∷ xs) x
  here x xs = (first_or_rest x xs x).1 (inl refl)

  pub later : (x : X) (xs : List X) (y : X) → Contains xs y → Contains (x ∷ xs) y
  later x xs y a = (first_or_rest x xs y).1 (inr a)

  pub none_in_empty : (y : X) → Contains [] y → ⊥
  none_in_empty y a = absurd (omega (arith, a.1))

  -- the members of a filter
  pub kept : (p : X → Bool) (xs : List X) (y : X) → Contains (filter p xs) y ↔ (Contains xs y × (p y ≡ true))
  kept p [] y = (λ a. absurd (none_in_empty y a), λ a. a.0)
  kept p (x ∷ xs) y = ⊎_elim
      (λ (is : p x ≡ true). rw is (let rest = kept p xs y in let old = first_or_rest x xs y in let whole = first_or_rest x (filter p xs) y in (
        λ a. elim (whole.0 a) [ inl same ↦ (old.1 (inl same), subst (λ z. p z ≡ true) same is) | inr b ↦ let d = rest.0 b in (old.1 (inr d.0), d.1) ],
        λ a. whole.1 (elim (old.0 a.0) [ inl same ↦ inl same | inr b ↦ inr (rest.1 (b, a.1)) ]),
      )))
      (λ (no : p x ≡ false). rw no (let rest = kept p xs y in let old = first_or_rest x xs y in (
        λ a. let d = rest.0 a in (old.1 (inr d.0), d.1),
        λ a. elim (old.0 a.0) [ inl same ↦ absurd (false≢true (sym no ∙ subst (λ z. p z ≡ true) (sym same) a.1)) | inr b ↦ rest.1 (b, a.1) ],
      )))
      (cases_Bool (p x))

  -- each and each later one
  pub pairs_head : (R : X → X → Type 0) (x : X) (xs : List X) → AllPairs R (x ∷ xs) → (y : X) → Contains xs y → R x y
  pairs_head R x xs pairs y a = subst (R x) a.2 (pairs zero (suc a.0) y (omega arith) (omega (arith, a.1)))

  pub pairs_tail : (R : X → X → Type 0) (x : X) (xs : List X) → AllPairs R (x ∷ xs) → AllPairs R xs
  pairs_tail R x xs pairs i j d lt within = pairs (suc i) (suc j) d (omega arith) (omega arith)

module _ {X Y : Type 0} (f : X → Y) where
  -- the members of a map
  pub mapped : (xs : List X) (x : X) → Contains xs x → Contains (map f xs) (f x)
  mapped [] x a = absurd (none_in_empty x a)
  mapped (z ∷ zs) x a = elim ((first_or_rest z zs x).0 a) [ inl same ↦ (first_or_rest (f z) (map f zs) (f x)).1 (inl (ap f same)) | inr b ↦ later (f z) (map f zs) (f x) (mapped zs x b) ]

  pub mapped_back : (xs : List X) (y : Y) → Contains (map f xs) y → (x : X) × Contains xs x × (f x ≡ y)
  mapped_back [] y a = absurd (none_in_empty y a)
  mapped_back (z ∷ zs) y a = elim ((first_or_rest (f z) (map f zs) y).0 a) [
    | inl same ↦ (z, here z zs, same)
    | inr b ↦ let old = mapped_back zs y b in (old.0, later z zs old.0 old.1, old.2)
  ]
