-- Lists of values and their data.
use Rattle.std.proofs.Common.{◌≡◌, ◌==◌, ℕ, suc, List, [], ◌∷◌, length, true, false, cond, refl, sym, ap, arith}
use Rattle.std.proofs.lemmas.Bool.{ne_eqb}
use Rattle.serde_json.specs.View.{items_view}
use Rattle.serde_json.specs.declared.value.Value.{Value}
use Rattle.field_kinds.specs.Offered.{has_items}

pub no_items_left : (xs : List Value) → cond (has_items (items_view xs)) false true ≡ (length xs == 0)
no_items_left [] = refl
no_items_left (x ∷ xs) = sym (ne_eqb (length (x ∷ xs)) 0 (λ same. omega (arith, same)))
