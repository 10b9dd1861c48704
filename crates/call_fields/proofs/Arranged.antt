-- Pairs are arranged in one way, so an object gives one information.
use Rattle.std.proofs.Common.{◌≡◌, ◌⊎◌, inl, inr, ℕ, List, [], ◌∷◌, ◌++◌, Option, Some, None, map, length, sym, ap, subst, ◌∙◌, refl, arith}
use Rattle.std.specs.Prelude.{Contains, All, unwrap_or}
use Rattle.std.specs.Ordering.{nat_cmp, ordering_reverse}
use Rattle.std.specs.Cmp.Lexicographic.{slice_cmp, nat_list_cmp_total}
use Rattle.std.specs.declared.cmp.Ordering.TheVariants.{Less, Greater}
use Rattle.std.specs.List.Sorted.{IsPermutation}
use Rattle.std.proofs.lemmas.List.{get_or-map, length-map}
use Rattle.std.proofs.lemmas.List.Elements.{All-nil, All-cons, All-contains, Contains-get_or, Contains-append_left, Contains-append_right, Contains-append_cases}
use Rattle.std.proofs.lemmas.List.Sorted.{Contains-permutation, IsPermutation-sym}
use Rattle.std.proofs.lemmas.Map.Keys.{sorted_tail}
use Rattle.std.proofs.lemmas.Map.Views.{All-after_first}
use Rattle.serde_json.specs.Data.{Data}
use Rattle.name_rules.specs.InfoPairs.{keys, lowered, AreInfo, IsAscending, IsArranged}
use Rattle.field_kinds.specs.Info.{Pairs, pairs_of, IsInfo}

abbrev Pair : Type 0
Pair = List ℕ × List ℕ

abbrev key : Pair → List ℕ
key p = p.0

in_first : (x : Pair) (xs : List Pair) → Contains (x ∷ xs) x
in_first x xs = Contains-append_left (x ∷ []) xs x (Contains-get_or (x ∷ []) 0 x (omega arith))

in_rest : (x : Pair) (xs : List Pair) (p : Pair) → Contains xs p → Contains (x ∷ xs) p
in_rest x xs p has = Contains-append_right (x ∷ []) xs p has

in_both : (x : Pair) (xs : List Pair) (p : Pair) → Contains (x ∷ xs) p → (x ≡ p) ⊎ Contains xs p
in_both x xs p has = elim (Contains-append_cases (x ∷ []) xs p has) [
  | inl one ↦ inl (All-contains (λ y. x ≡ y) (x ∷ []) p (All-cons (λ y. x ≡ y) x [] refl (All-nil (λ y. x ≡ y))) one)
  | inr rest ↦ inr rest
]

in_none : (p : Pair) → Contains [] p → ⊥
in_none p has = All-contains (λ y. ⊥) [] p (All-nil (λ y. ⊥)) has

has_key : (xs : List Pair) (p : Pair) → Contains xs p → Contains (map key xs) p.0
has_key xs p has =
    let many = length-map xs key in
    (has.0, omega (arith, many, has.1), get_or-map key xs has.0 p p.0 has.1 ∙ ap key has.2)

-- the first pair is before the others
ahead : (x : Pair) (xs : List Pair) (p : Pair) → IsAscending (x ∷ xs) → Contains xs p → slice_cmp nat_cmp x.0 p.0 ≡ Less
ahead x xs p order has = All-contains (λ k. slice_cmp nat_cmp x.0 k ≡ Less) (map key xs) p.0 (All-after_first (slice_cmp nat_cmp) x.0 (map key xs) order) (has_key xs p has)

both_ahead : (a b : List ℕ) → slice_cmp nat_cmp a b ≡ Less → slice_cmp nat_cmp b a ≡ Less → ⊥
both_ahead a b one other =
    let same : Less ≡ Greater = sym one ∙ nat_list_cmp_total.antisymm a b ∙ ap ordering_reverse other in
    cc same

abbrev Within : List Pair → List Pair → Type 0
Within xs ys = (p : Pair) → Contains xs p → Contains ys p

same_first : (x y : Pair) (xs ys : List Pair) → IsAscending (x ∷ xs) → IsAscending (y ∷ ys) → Within (x ∷ xs) (y ∷ ys) → Within (y ∷ ys) (x ∷ xs) → y ≡ x
same_first x y xs ys up_x up_y to from = elim (in_both y ys x (to x (in_first x xs))) [
  | inl same ↦ same
  | inr later ↦ elim (in_both x xs y (from y (in_first y ys))) [
    | inl same ↦ sym same
    | inr before ↦ absurd (both_ahead x.0 y.0 (ahead x xs y up_x before) (ahead y ys x up_y later))
  ]
]

rest_within : (x y : Pair) (xs ys : List Pair) → IsAscending (x ∷ xs) → y ≡ x → Within (x ∷ xs) (y ∷ ys) → Within xs ys
rest_within x y xs ys up same to p has = elim (in_both y ys p (to p (in_rest x xs p has))) [
  | inl first ↦ (let less = ahead x xs p up has in let is : x ≡ p = sym same ∙ first in absurd (both_ahead x.0 x.0 (ap (λ k. slice_cmp nat_cmp x.0 k) (ap key is) ∙ less) (ap (λ k. slice_cmp nat_cmp x.0 k) (ap key is) ∙ less)))
  | inr rest ↦ rest
]

-- lists that ascend and have the same pairs are the same
same_list : (xs ys : List Pair) → IsAscending xs → IsAscending ys → Within xs ys → Within ys xs → xs ≡ ys
same_list [] [] up_x up_y to from = refl
same_list [] (y ∷ ys) up_x up_y to from = absurd (in_none y (from y (in_first y ys)))
same_list (x ∷ xs) [] up_x up_y to from = absurd (in_none x (to x (in_first x xs)))
same_list (x ∷ xs) (y ∷ ys) up_x up_y to from =
    let first : y ≡ x = same_first x y xs ys up_x up_y to from in
    let tail_x : IsAscending xs = sorted_tail (slice_cmp nat_cmp) x.0 (map key xs) up_x in
    let tail_y : IsAscending ys = sorted_tail (slice_cmp nat_cmp) y.0 (map key ys) up_y in
    let rest : xs ≡ ys = same_list xs ys tail_x tail_y (rest_within x y xs ys up_x first to) (rest_within y x ys xs up_y (sym first) from) in
    ap (λ p. p ∷ xs) (sym first) ∙ ap (λ ps. y ∷ ps) rest

arranged_within : (pairs a b : Pairs) → IsArranged pairs a → IsArranged pairs b → Within a b
arranged_within pairs a b first second p has =
    Contains-permutation (map lowered pairs) b p second.same (Contains-permutation a (map lowered pairs) p (IsPermutation-sym (map lowered pairs) a first.same) has)

one_arranged : (pairs a b : Pairs) → IsArranged pairs a → IsArranged pairs b → a ≡ b
one_arranged pairs a b first second = same_list a b first.order second.order (arranged_within pairs a b first second) (arranged_within pairs b a second first)

some_same : (a b : Pairs) → Some a ≡ Some b → a ≡ b
some_same a b same = ap (λ o. unwrap_or o a) same

pub one_info : (d : Data) (a b : Option Pairs) → IsInfo d a → IsInfo d b → a ≡ b
one_info d None None first second = refl
one_info d None (Some b) first second = absurd (first second.0 second.1 second.2)
one_info d (Some a) None first second = absurd (second first.0 first.1 first.2)
one_info d (Some a) (Some b) first second =
    let same : second.0 ≡ first.0 = some_same second.0 first.0 (sym second.1 ∙ first.1) in
    ap Some (one_arranged first.0 a b first.3 (subst (λ pairs. IsArranged pairs b) same second.3))
