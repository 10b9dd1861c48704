-- Texts after a front, and on both sides of a hyphen.
use Rattle.std.proofs.Common.{◌≡◌, ◌≢◌, ℕ, inl, inr, List, [], ◌∷◌, ◌++◌, Option, Some, None, ap, ◌∙◌, refl}
use Rattle.std.specs.Prelude.{All, option_map, unwrap_or}
use Rattle.std.proofs.lemmas.Bool.{cases_eq, ne_eqb, eq-eqb}
use Rattle.std.proofs.lemmas.List.Elements.{All-head, All-tail}
use Rattle.byte_ranges.specs.Ranges.{after, with_byte, halves}

pub after_front : (ps rest : List ℕ) → after ps (ps ++ rest) ≡ Some rest
after_front [] rest = refl
after_front (p ∷ ps) rest = rw (eq-eqb p p refl) (after_front ps rest)

pub front_is : (ps text rest : List ℕ) → after ps text ≡ Some rest → text ≡ ps ++ rest
front_is [] text rest is = cc is
front_is (p ∷ ps) [] rest is = absurd (cc is)
front_is (p ∷ ps) (b ∷ bs) rest is = elim (cases_eq b p) [
  | inl same ↦ (let tails = front_is ps bs rest (rw (eq-eqb b p same) at is) in cc (same, tails))
  | inr other ↦ (let none = rw (ne_eqb b p other) at is in absurd (cc none))
]

none_by : (ps text : List ℕ) (o : Option (List ℕ)) → after ps text ≡ o → ((rest : List ℕ) → text ≢ ps ++ rest) → o ≡ None
none_by ps text None is none = refl
none_by ps text (Some rest) is none = absurd (none rest (front_is ps text rest is))

pub no_front : (ps text : List ℕ) → ((rest : List ℕ) → text ≢ ps ++ rest) → after ps text ≡ None
no_front ps text none = none_by ps text (after ps text) refl none

pub halves_at : (first last : List ℕ) → All (λ b. b ≢ 45) first → halves (first ++ 45 ∷ last) ≡ Some (first, last)
halves_at [] last clean = refl
halves_at (b ∷ bs) last clean = rw (ne_eqb b 45 (All-head (λ b. b ≢ 45) b bs clean), halves_at bs last (All-tail (λ b. b ≢ 45) b bs clean)) refl

pub no_halves : (text : List ℕ) → All (λ b. b ≢ 45) text → halves text ≡ None
no_halves [] clean = refl
no_halves (b ∷ bs) clean = rw (ne_eqb b 45 (All-head (λ b. b ≢ 45) b bs clean), no_halves bs (All-tail (λ b. b ≢ 45) b bs clean)) refl

pair_at : (p q : List ℕ × List ℕ) → Some p ≡ Some q → p ≡ q
pair_at p q same = ap (λ o. unwrap_or o p) same

abbrev joined : List ℕ × List ℕ → List ℕ
joined p = p.0 ++ 45 ∷ p.1

more_is : (b : ℕ) (bs : List ℕ) (q : List ℕ × List ℕ) (o : Option (List ℕ × List ℕ)) → halves bs ≡ o → ((p : List ℕ × List ℕ) → halves bs ≡ Some p → bs ≡ joined p)
    → option_map (with_byte b) o ≡ Some q → b ∷ bs ≡ joined q
more_is b bs q None is rest found = absurd (cc found)
more_is b bs q (Some p) is rest found = ap (λ xs. b ∷ xs) (rest p is) ∙ ap joined (pair_at (with_byte b p) q found)

halves_by : (text : List ℕ) (q : List ℕ × List ℕ) → halves text ≡ Some q → text ≡ joined q
halves_by [] q is = absurd (cc is)
halves_by (b ∷ bs) q is = elim (cases_eq b 45) [
  | inl same ↦ (
      let found = rw (eq-eqb b 45 same) at is in
      ap (λ c. c ∷ bs) same ∙ ap joined (pair_at ([], bs) q found))
  | inr other ↦ (let found = rw (ne_eqb b 45 other) at is in more_is b bs q (halves bs) refl (λ p at. halves_by bs p at) found)
]

pub halves_is : (text first last : List ℕ) → halves text ≡ Some (first, last) → text ≡ first ++ 45 ∷ last
halves_is text first last is = halves_by text (first, last) is
