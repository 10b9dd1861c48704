-- Rows found by their names.
use Rattle.std.proofs.Common.{◌≡◌, ◌≢◌, ◌⊎◌, inl, inr, ℕ, zero, suc, ◌+◌, ◌<◌, ◌≤◌, List, [], ◌∷◌, length, Some, slice_get, slice_index_or, unwrap_or, Bor, refl, sym, ap, subst, ◌∙◌, arith}
use Rattle.rule_table.specs.Rows.{texts, IsRow}

-- the text at a place is that of the name there
pub texts_at : (names : List (Bor (List ℕ))) (i : ℕ) (d : Bor (List ℕ)) → i < length names → slice_get (texts names) i ≡ Some (slice_index_or names i d).now
texts_at [] i d within = absurd (omega (arith, within))
texts_at (x ∷ xs) zero d within = refl
texts_at (x ∷ xs) (suc i) d within = texts_at xs i d (omega (arith, within))

pub no_text_past : (names : List (Bor (List ℕ))) (i : ℕ) (name : List ℕ) → length names ≤ i → IsRow (texts names) i name → ⊥
no_text_past [] i name past row = absurd (cc row)
no_text_past (x ∷ xs) zero name past row = absurd (omega (arith, past))
no_text_past (x ∷ xs) (suc i) name past row = no_text_past xs i name (omega (arith, past)) row

row_text : (names : List (Bor (List ℕ))) (at : ℕ) (d : Bor (List ℕ)) (name : List ℕ) → at < length names → IsRow (texts names) at name → (slice_index_or names at d).now ≡ name
row_text names at d name within row = ap (λ o. unwrap_or o name) (sym (texts_at names at d within) ∙ row)

-- no row up to this place has the name
pub no_row : (names : List (Bor (List ℕ))) (at i : ℕ) (d : Bor (List ℕ)) (name : List ℕ) → at < length names → (slice_index_or names at d).now ≢ name
    → ((j : ℕ) → j < at → IsRow (texts names) j name → ⊥) → i < at + 1 → (i < at) ⊎ (at ≤ i) → IsRow (texts names) i name → ⊥
no_row names at i d name within other before low (inl lower) row = before i lower row
no_row names at i d name within other before low (inr past) row =
    let same : i ≡ at = omega (arith, low, past) in
    other (row_text names at d name within (subst (λ j. IsRow (texts names) j name) same row))

pub none_row : (names : List (Bor (List ℕ))) (at i : ℕ) (name : List ℕ) → length names ≤ at
    → ((j : ℕ) → j < at → IsRow (texts names) j name → ⊥) → (i < at) ⊎ (at ≤ i) → IsRow (texts names) i name → ⊥
none_row names at i name past before (inl lower) row = before i lower row
none_row names at i name past before (inr higher) row = no_text_past names i name (omega (arith, past, higher)) row
