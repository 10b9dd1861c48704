-- The names of capabilities tell a set of them.
use Rattle.std.proofs.Common.{◌≡◌, ℕ, zero, suc, ◌<◌, List, [], ◌∷◌, Bool, true, false, Some, map, slice_get, get_or, sym, ap, ◌∙◌, refl, arith}
use Rattle.std.specs.Prelude.{All, filter, ◌==◌, ◌&&◌, ◌||◌, unwrap_or}
use Rattle.std.specs.List.{list_any}
use Rattle.std.proofs.lemmas.Bool.{eqb-true, eq-eqb}
use Rattle.std.proofs.Math.Bool.{or-true, and-true}
use Rattle.std.proofs.lemmas.List.{map-id, ext_get_or}
use Rattle.std.proofs.lemmas.List.Elements.{All-nil, All-cons}
use Rattle.std.proofs.lemmas.Map.Views.{any-filter_same}
use Rattle.std.proofs.lemmas.Option.{slice_get-get_or, slice_get_within}
use Rattle.serde_json.specs.Data.{Data, string}
use Rattle.rule_table.specs.declared.cap.Cap.{Cap}
use Rattle.rule_table.specs.declared.cap.Cap.TheVariants.{ListKeys}
use Rattle.rule_table.specs.declared.cap_set.CapSet.{CapSet}
use Rattle.rule_table.specs.Cap.{cap_order, cap_names, cap_place, cap_there, cap_here}
use Rattle.rule_table.specs.CapSet.{has}
use Rattle.wire_forms.specs.Body.{cap_name, caps_json}
use Rattle.wire_laws.specs.Told.{AreCaps}
use Rattle.wire_laws.proofs.Plain.{text, same_list, one_place}

place_within : (c : Cap) → cap_place c < 26
place_within c = slice_get_within cap_order (cap_place c) c (cap_there c)

-- no two capabilities have one name
same_cap : (c d : Cap) → cap_name c ≡ cap_name d → c ≡ d
same_cap c d same =
    let place : cap_place c ≡ cap_place d = one_place cap_names refl (cap_place c) (cap_place d) (place_within c) (place_within d) same in
    ap (λ o. unwrap_or o c) (sym (cap_there c) ∙ ap (slice_get cap_order) place ∙ cap_there d)

-- ---- the capabilities of a set, in order, tell it

abbrev is : Cap → Cap → Bool
is c d = cap_place c == cap_place d

some_cap : (c d : Cap) → Some c ≡ Some d → c ≡ d
some_cap c d same = ap (λ o. unwrap_or o c) same

found : (p : Cap → Bool) (xs : List Cap) (i : ℕ) (c : Cap) → slice_get xs i ≡ Some c → p c ≡ true → list_any p xs ≡ true
found p [] i c there test = absurd (cc there)
found p (x ∷ xs) zero c there test = ap (λ b. b || list_any p xs) (ap p (some_cap x c there) ∙ test)
found p (x ∷ xs) (suc i) c there test = ap (λ b. p x || b) (found p xs i c there test) ∙ or-true (p x)

held : (s : CapSet) (c : Cap) → list_any (is c) (filter (has s) cap_order) ≡ has s c
held s c =
    any-filter_same (is c) (has s) (has s c) (λ d same. ap (λ n. get_or s.flags n false) (sym (eqb-true (cap_place c) (cap_place d) same))) cap_order
    ∙ ap (λ b. has s c && b) (found (is c) cap_order (cap_place c) c (cap_there c) (eq-eqb (cap_place c) (cap_place c) refl))
    ∙ and-true (has s c)

abbrev cap_at : ℕ → Cap
cap_at i = get_or cap_order i ListKeys

at_place : (i : ℕ) → i < 26 → cap_place (cap_at i) ≡ i
at_place i within = cap_here i (cap_at i) (slice_get-get_or cap_order i ListKeys within)

same_flags : (a b : CapSet) → AreCaps a → AreCaps b → ((c : Cap) → has a c ≡ has b c) → a.flags ≡ b.flags
same_flags a b first second each = ext_get_or false a.flags b.flags (first ∙ sym second) (λ i within.
    let place : cap_place (cap_at i) ≡ i = at_place i (omega (arith, within, first)) in
    ap (λ n. get_or a.flags n false) (sym place) ∙ each (cap_at i) ∙ ap (λ n. get_or b.flags n false) place)

any_caps : (cs : List Cap) → All (λ c. Unit {0}) cs
any_caps [] = All-nil (λ c. Unit {0})
any_caps (c ∷ cs) = All-cons (λ c. Unit {0}) c cs tt (any_caps cs)

abbrev names_json : Cap → Data
names_json c = string (cap_name c)

pub same_caps : (a b : CapSet) → AreCaps a → AreCaps b → caps_json a ≡ caps_json b → a ≡ b
same_caps a b first second same =
    let told : map (λ c. c) (filter (has a) cap_order) ≡ map (λ c. c) (filter (has b) cap_order) =
    same_list names_json (λ c. c) (λ c. Unit {0}) (λ c d any other named. same_cap c d (ap text named)) (filter (has a) cap_order) (filter (has b) cap_order) (any_caps (filter (has a) cap_order)) (any_caps (filter (has b) cap_order)) same in
    let kept : filter (has a) cap_order ≡ filter (has b) cap_order = sym (map-id (filter (has a) cap_order)) ∙ told ∙ map-id (filter (has b) cap_order) in
    let flags : a.flags ≡ b.flags = same_flags a b first second (λ c. sym (held a c) ∙ ap (list_any (is c)) kept ∙ held b c) in
    λ i. record { flags = flags i }
