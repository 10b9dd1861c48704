-- How often an extent stands in a list.
use Rattle.std.proofs.Common.{◌≡◌, ◌==◌, ◌&&◌, ◌⊎◌, inl, inr, ℕ, zero, suc, ◌+◌, ◌<◌, Bool, true, false, cond, List, [], ◌∷◌, ◌++◌, length, get_or, take, drop, filter, Contains, refl, ap, ◌∙◌, arith, length-append}
use Rattle.std.specs.List.{flat_map, remove}
use Rattle.std.proofs.lemmas.Bool.{and_parts, and_from, eqb-true, eq-eqb}
use Rattle.std.proofs.lemmas.List.Concat.{flat_map-append}
use Rattle.std.proofs.lemmas.List.Elements.{filter-append}
use Rattle.b2_base.specs.declared.extent.Extent.{Extent}
use Rattle.stored_contents.specs.Room.{times}
use Rattle.stored_contents.proofs.Lists.{around, flat_around}

abbrev pub same : Extent → Extent → Bool
same e x = x.at == e.at && x.len == e.len

pub times_both : (e : Extent) (xs ys : List Extent) → times e (xs ++ ys) ≡ times e xs + times e ys
times_both e xs ys = ap length (filter-append (same e) xs ys) ∙ length-append (filter (same e) xs) (filter (same e) ys)

-- the extent itself
pub itself : (e : Extent) → same e e ≡ true
itself e = and_from (e.at == e.at) (e.len == e.len) (eq-eqb e.at e.at refl) (eq-eqb e.len e.len refl)

pub no_other : (e x : Extent) → same e x ≡ true → x ≡ e
no_other e x is =
    let parts = and_parts (x.at == e.at) (x.len == e.len) is in
    let at : x.at ≡ e.at = eqb-true x.at e.at parts.0 in
    let len : x.len ≡ e.len = eqb-true x.len e.len parts.1 in
    ap (λ a. record { at = a; len = x.len }) at ∙ ap (λ l. record { at = e.at; len = l }) len

pub once : (e : Extent) → times e (e ∷ []) ≡ 1
once e = ap (λ b. length (cond b (e ∷ []) [])) (itself e)

-- one and all the others
pub times_around : (e : Extent) (xs : List Extent) (i : ℕ) (d : Extent) → i < length xs → times e xs ≡ times e (get_or xs i d ∷ []) + times e (remove xs i)
times_around e xs i d within =
    let split : times e xs ≡ times e (take i xs) + times e (get_or xs i d ∷ drop (suc i) xs) = ap (times e) (around xs i d within) ∙ times_both e (take i xs) (get_or xs i d ∷ drop (suc i) xs) in
    let behind : times e (get_or xs i d ∷ drop (suc i) xs) ≡ times e (get_or xs i d ∷ []) + times e (drop (suc i) xs) = times_both e (get_or xs i d ∷ []) (drop (suc i) xs) in
    let left : times e (remove xs i) ≡ times e (take i xs) + times e (drop (suc i) xs) = times_both e (take i xs) (drop (suc i) xs) in
    omega (arith, split, behind, left)

pub times_pieces : {X : Type 0} (f : X → List Extent) (e : Extent) (xs : List X) (i : ℕ) (d : X) → i < length xs
    → times e (flat_map f xs) ≡ times e (f (get_or xs i d)) + times e (flat_map f (remove xs i))
times_pieces f e xs i d within =
    let front = flat_map f (take i xs) in
    let behind = flat_map f (drop (suc i) xs) in
    let here = f (get_or xs i d) in
    let split : times e (flat_map f xs) ≡ times e front + times e (here ++ behind) = ap (times e) (flat_around f xs i d within) ∙ times_both e front (here ++ behind) in
    let left : times e (flat_map f (remove xs i)) ≡ times e front + times e behind = ap (times e) (flat_map-append f (take i xs) (drop (suc i) xs)) ∙ times_both e front behind in
    omega (arith, split, times_both e here behind, left)

-- it stands there exactly where it stands there some times
pub there_some : (e : Extent) (xs : List Extent) → Contains xs e → 0 < times e xs
there_some e xs has =
    let here : times e (get_or xs has.0 e ∷ []) ≡ 1 = ap (λ x. times e (x ∷ [])) has.2 ∙ once e in
    omega (arith, times_around e xs has.0 e has.1, here)

pub some_there : (e : Extent) (xs : List Extent) → 0 < times e xs → Contains xs e
some_there e [] some = absurd (omega arith)
some_there e (x ∷ xs) some = by (same e x) refl (some_there e xs) some
  where
    by : (b : Bool) → same e x ≡ b → (0 < times e xs → Contains xs e) → 0 < length (cond b (x ∷ filter (same e) xs) (filter (same e) xs)) → Contains (x ∷ xs) e
    by true is behind some = (0, omega arith, no_other e x is)
    by false is behind some = let there = behind some in (suc there.0, omega (arith, there.1), there.2)

-- which of the two
pub is_there : (e : Extent) (xs : List Extent) → Contains xs e ⊎ (Contains xs e → ⊥)
is_there e xs = by (times e xs) refl
  where
    by : (n : ℕ) → times e xs ≡ n → Contains xs e ⊎ (Contains xs e → ⊥)
    by zero none = inr (λ has. let some = there_some e xs has in absurd (omega (arith, none, some)))
    by (suc n) some = inl (some_there e xs (omega (arith, some)))
