-- Capabilities by their names, and sets of them by a test.
use Rattle.std.proofs.Common.{◌≡◌, ℕ, ◌<◌, ◌≤◌, ◌⊎◌, inl, inr, List, [], length, get_or, sym, ap, ◌∙◌, Bor, arith}
use Rattle.std.proofs.lemmas.Bool.{cases_lt}
use Rattle.std.proofs.lemmas.List.{get_or-map, length-map}
use Rattle.std.proofs.lemmas.Option.{slice_get_past, none-some}
use Rattle.rule_table.specs.declared.cap.Cap.{Cap}
use Rattle.rule_table.specs.Cap.{cap_order, cap_names, cap_place, cap_there}
use Rattle.rule_table.specs.Rows.{texts}
use Rattle.key_fields.specs.Capabilities.{cap_name}

below_or : (e : Cap) → (cap_place e < 26) ⊎ (26 ≤ cap_place e) → cap_place e < 26
below_or e (inl below) = below
below_or e (inr past) = absurd (none-some e (sym (slice_get_past cap_order (cap_place e) past) ∙ cap_there e))

pub place_below : (e : Cap) → cap_place e < 26
place_below e = below_or e (cases_lt (cap_place e) 26)

pub name_at : (names : List (Bor (List ℕ))) (e : Cap) (place : ℕ) (d : Bor (List ℕ)) → texts names ≡ cap_names → place ≡ cap_place e → (get_or names place d).now ≡ cap_name e
name_at names e place d same is =
    let many = length-map names (λ (name : Bor (List ℕ)). name.now) in
    let all : length (texts names) ≡ 26 = ap length same in
    let low = place_below e in
    sym (get_or-map (λ (name : Bor (List ℕ)). name.now) names place d [] (omega (arith, many, all, low, is)))
    ∙ ap (λ (ns : List (List ℕ)). get_or ns place []) same ∙ ap (λ i. get_or cap_names i []) is
