-- Pairs whose keys ascend are told by which pairs they are.
use Rattle.std.proofs.Common.{◌≡◌, ◌⊎◌, inl, inr, ℕ, zero, suc, ◌<◌, List, [], ◌∷◌, length, map, get_or, Ordering, Less, Equal, Greater, All, Contains, refl, sym, ap, ◌∙◌, subst, arith}
use Rattle.std.proofs.lemmas.List.{get_or-map, length-map}
use Rattle.std.proofs.lemmas.List.Elements.{All-contains, All-head, All-tail, All-from_recursion}
use Rattle.std.proofs.lemmas.List.Sorted.{IsPermutation-sym, Contains-permutation, length_permutation}
use Rattle.std.proofs.lemmas.Map.Keys.{sorted_head, sorted_tail}
use Rattle.std.specs.Ordering.{nat_cmp, ordering_reverse}
use Rattle.std.specs.Cmp.Lexicographic.{slice_cmp, nat_list_cmp_total}
use Rattle.std.specs.List.Sorted.{IsPermutation, IsStrictlySortedBy}
use Rattle.name_rules.specs.InfoPairs.{keys, lower, lowered, IsKeptKey, AreKept, IsAscending, IsArranged}

abbrev Pair : Type 0
Pair = List ℕ × List ℕ

-- the key of the first is below that of the second
abbrev IsBefore : Pair → Pair → Type 0
IsBefore a b = slice_cmp nat_cmp a.0 b.0 ≡ Less

no_cycle_at : (o : Ordering) → o ≡ Less → ordering_reverse o ≡ Less → ⊥
no_cycle_at Less is back = absurd (cc back)
no_cycle_at Equal is back = absurd (cc is)
no_cycle_at Greater is back = absurd (cc is)

no_cycle : (a b : Pair) → IsBefore a b → IsBefore b a → ⊥
no_cycle a b is back = no_cycle_at (slice_cmp nat_cmp a.0 b.0) is (sym (nat_list_cmp_total.antisymm b.0 a.0) ∙ back)

all_after_at : (a : Pair) (ps : List Pair) → All (λ k. slice_cmp nat_cmp a.0 k ≡ Less) (keys ps) → All (IsBefore a) ps
all_after_at a ps h = λ i d within.
    ap (slice_cmp nat_cmp a.0) (sym (get_or-map (λ (p : Pair). p.0) ps i d d.0 within)) ∙ h i d.0 (rw length-map within)

-- those after the first
all_after : (a : Pair) (ps : List Pair) → IsAscending (a ∷ ps) → All (IsBefore a) ps
all_after a ps h = all_after_at a ps (All-from_recursion (λ k. slice_cmp nat_cmp a.0 k ≡ Less) (keys ps) (sorted_head (slice_cmp nat_cmp) a.0 (keys ps) h))

-- one of a list is its first, or one of the others
at_first : (y x : Pair) (ys : List Pair) (k : ℕ) → k < length (y ∷ ys) → get_or (y ∷ ys) k x ≡ x → (y ≡ x) ⊎ Contains ys x
at_first y x ys zero within is = inl is
at_first y x ys (suc k) within is = inr (k, omega (arith, within), is)

first_or : (y x : Pair) (ys : List Pair) → Contains (y ∷ ys) x → (y ≡ x) ⊎ Contains ys x
first_or y x ys h = at_first y x ys h.0 h.1 h.2

none_in : (x : Pair) → Contains [] x → ⊥
none_in x h = omega (arith, h.1)

first_in : (x : Pair) (xs : List Pair) → Contains (x ∷ xs) x
first_in x xs = (0, omega arith, refl)

later_in : (x p : Pair) (xs : List Pair) → Contains xs p → Contains (x ∷ xs) p
later_in x p xs h = (suc h.0, omega (arith, h.1), h.2)

same_first : (x y : Pair) (xs ys : List Pair) → All (IsBefore x) xs → All (IsBefore y) ys → (y ≡ x) ⊎ Contains ys x → (x ≡ y) ⊎ Contains xs y → x ≡ y
same_first x y xs ys up to (inl is) back = sym is
same_first x y xs ys up to (inr some) (inl is) = is
same_first x y xs ys up to (inr some) (inr other) = absurd (no_cycle x y (All-contains (IsBefore x) xs y up other) (All-contains (IsBefore y) ys x to some))

not_first : (x y p : Pair) (xs ys : List Pair) → x ≡ y → All (IsBefore x) xs → Contains xs p → (y ≡ p) ⊎ Contains ys p → Contains ys p
not_first x y p xs ys same up some (inl is) = absurd (no_cycle x x (subst (IsBefore x) (sym (same ∙ is)) (All-contains (IsBefore x) xs p up some)) (subst (IsBefore x) (sym (same ∙ is)) (All-contains (IsBefore x) xs p up some)))
not_first x y p xs ys same up some (inr other) = other

same_pairs : (xs ys : List Pair) → IsAscending xs → IsAscending ys → ((p : Pair) → Contains xs p → Contains ys p) → ((p : Pair) → Contains ys p → Contains xs p) → xs ≡ ys
same_pairs [] [] up to on back = refl
same_pairs [] (y ∷ ys) up to on back = absurd (none_in y (back y (first_in y ys)))
same_pairs (x ∷ xs) [] up to on back = absurd (none_in x (on x (first_in x xs)))
same_pairs (x ∷ xs) (y ∷ ys) up to on back =
    let after_x = all_after x xs up in
    let after_y = all_after y ys to in
    let same : x ≡ y = same_first x y xs ys after_x after_y (first_or y x ys (on x (first_in x xs))) (first_or x y xs (back y (first_in y ys))) in
    let rest : xs ≡ ys = same_pairs xs ys (sorted_tail (slice_cmp nat_cmp) x.0 (keys xs) up) (sorted_tail (slice_cmp nat_cmp) y.0 (keys ys) to)
    (λ p some. not_first x y p xs ys same after_x some (first_or y p ys (on p (later_in x p xs some))))
    (λ p some. not_first y x p ys xs (sym same) after_y some (first_or x p xs (back p (later_in y p ys some)))) in
    ap (λ z. z ∷ xs) same ∙ ap (λ zs. y ∷ zs) rest

lowered_all : (pairs : List Pair) → All (λ pair. IsKeptKey pair.0) pairs → map lowered pairs ≡ pairs
lowered_all [] h = refl
lowered_all (p ∷ ps) h =
    let first : lowered p ≡ p = ap (λ k. (k, p.1)) (All-head (λ pair. IsKeptKey pair.0) p ps h).1 in
    ap (λ q. q ∷ map lowered ps) first ∙ ap (λ qs. p ∷ qs) (lowered_all ps (All-tail (λ pair. IsKeptKey pair.0) p ps h))

-- what is kept is arranged as itself
pub arranged_again : (pairs info : List Pair) → AreKept pairs → IsArranged pairs info → info ≡ pairs
arranged_again pairs info kept arranged =
    let same = subst (λ ps. IsPermutation ps info) (lowered_all pairs kept.keys) arranged.same in
    same_pairs info pairs arranged.order kept.order
    (λ p some. Contains-permutation info pairs p (IsPermutation-sym pairs info same) some)
    (λ p some. Contains-permutation pairs info p same some)

empty_of : (pairs : List Pair) → length pairs ≡ 0 → pairs ≡ []
empty_of [] len = refl
empty_of (p ∷ ps) len = absurd (omega (arith, len))

pub none_arranged : (info : List Pair) → IsArranged [] info → info ≡ []
none_arranged info arranged = empty_of info (length_permutation [] info arranged.same)
