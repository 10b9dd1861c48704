-- A table's rules, by tests over all of its rows.
use Rattle.std.proofs.Common.{◌≡◌, ◌≢◌, ℕ, zero, suc, ◌<◌, Bool, true, not, ◌&&◌, List, [], ◌∷◌, length, IsSome, slice_get, slice_index_or, sym, ap, ◌∙◌, refl, arith}
use Rattle.std.proofs.lemmas.Bool.{and_parts, false≢true}
use Rattle.std.proofs.lemmas.Slice.Eq.{bytes_eq-Decides}
use Rattle.std.specs.Str.{bytes_eq}
use Rattle.rule_table.specs.Rows.{AreApart, IsFull}

some_within : {E : Type 0} (order : List E) (i : ℕ) → IsSome (slice_get order i) → i < length order
some_within [] i some = absurd (false≢true some)
some_within (x ∷ order) zero some = omega arith
some_within (x ∷ order) (suc i) some = let rest = some_within order i some in omega (arith, rest)

within_some : {E : Type 0} (order : List E) (i : ℕ) → i < length order → IsSome (slice_get order i)
within_some [] i within = absurd (omega (arith, within))
within_some (x ∷ order) zero within = refl
within_some (x ∷ order) (suc i) within = within_some order i (omega (arith, within))

-- a list of values is full
pub full_order : {E : Type 0} (order : List E) → IsFull (λ i. slice_get order i) (length order)
full_order order i = (some_within order i, within_some order i)

-- no name of the list is this one
abbrev lacks : List ℕ → List (List ℕ) → Bool
lacks name [] = true
lacks name (other ∷ names) = not (bytes_eq name other) && lacks name names

-- no two names of the list are the same
abbrev pub apart : List (List ℕ) → Bool
apart [] = true
apart (name ∷ names) = lacks name names && apart names

differs : (a b : List ℕ) → not (bytes_eq a b) ≡ true → a ≢ b
differs a b test same = false≢true (sym (ap not ((bytes_eq-Decides a b).1 same)) ∙ test)

lacks_rule : (name : List ℕ) (names : List (List ℕ)) → lacks name names ≡ true → (j : ℕ) (d : List ℕ) → j < length names → name ≢ slice_index_or names j d
lacks_rule name [] test j d within = absurd (omega (arith, within))
lacks_rule name (other ∷ names) test zero d within = differs name other (and_parts (not (bytes_eq name other)) (lacks name names) test).0
lacks_rule name (other ∷ names) test (suc j) d within =
    lacks_rule name names (and_parts (not (bytes_eq name other)) (lacks name names) test).1 j d (omega (arith, within))

pub apart_rule : (names : List (List ℕ)) → apart names ≡ true → AreApart names
apart_rule [] test i j d before within = absurd (omega (arith, within))
apart_rule (name ∷ names) test zero zero d before within = absurd (omega (arith, before))
apart_rule (name ∷ names) test zero (suc j) d before within = lacks_rule name names (and_parts (lacks name names) (apart names) test).0 j d (omega (arith, within))
apart_rule (name ∷ names) test (suc i) zero d before within = absurd (omega (arith, before))
apart_rule (name ∷ names) test (suc i) (suc j) d before within =
    apart_rule names (and_parts (lacks name names) (apart names) test).1 i j d (omega (arith, before)) (omega (arith, within))
