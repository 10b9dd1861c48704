-- Sets of capabilities by a test.
use Rattle.std.proofs.Common.{◌≡◌, ℕ, ◌+◌, ◌<◌, ◌≤◌, ◌⊎◌, inl, inr, List, length, Bool, true, false, Some, map, get_or, slice_get, sym, ap, subst, ◌∙◌, refl, arith}
use Rattle.std.specs.Prelude.{◌↔◌, unwrap_or}
use Rattle.std.proofs.lemmas.Bool.{cases_lt, cases_Bool, false≢true}
use Rattle.std.proofs.lemmas.List.{ext_get_or, get_or-map}
use Rattle.std.proofs.lemmas.Option.{slice_get-get_or, get_or_from_slice_get}
use Rattle.rule_table.specs.declared.cap.Cap.{Cap}
use Rattle.rule_table.specs.declared.cap.Cap.TheVariants.{ListKeys}
use Rattle.rule_table.specs.declared.cap_set.CapSet.{CapSet}
use Rattle.rule_table.specs.Cap.{cap_order, cap_place, cap_there, cap_here}
use Rattle.rule_table.specs.CapSet.{HasCap}
use Rattle.key_fields.specs.Capabilities.{set_by}

-- the set has those of the first capabilities that pass the test
abbrev pub HasFirst : CapSet → (Cap → Bool) → ℕ → Type 0
HasFirst set test i = (d : Cap) → HasCap set d ↔ ((cap_place d < i) × (test d ≡ true))

abbrev pub IsAdded : CapSet → Cap → CapSet → Type 0
IsAdded set c new = (d : Cap) → HasCap new d ↔ (HasCap set d ⊎ (d ≡ c))

place_at : (i : ℕ) → i < 26 → cap_place (get_or cap_order i ListKeys) ≡ i
place_at i below = cap_here i (get_or cap_order i ListKeys) (slice_get-get_or cap_order i ListKeys below)

pub item_place : (items : List Cap) (i : ℕ) → items ≡ cap_order → i < 26 → cap_place (get_or items i ListKeys) ≡ i
item_place items i are below = ap (λ (xs : List Cap). cap_place (get_or xs i ListKeys)) are ∙ place_at i below

same_place : (a b : Cap) → cap_place a ≡ cap_place b → a ≡ b
same_place a b same = ap (λ o. unwrap_or o a) (sym (cap_there a) ∙ ap (slice_get cap_order) same ∙ cap_there b)

is_last : (c d : Cap) (i : ℕ) → cap_place c ≡ i → cap_place d < i + 1 → i ≤ cap_place d → d ≡ c
is_last c d i place below past = same_place d c (omega (arith, place, below, past))

pub first_none : (set : CapSet) (test : Cap → Bool) → ((c : Cap) → HasCap set c → ⊥) → HasFirst set test 0
first_none set test none d = (λ has. absurd (none d has), λ both. absurd (omega (arith, both.0)))

pub first_more : (set new : CapSet) (test : Cap → Bool) (c : Cap) (i : ℕ) → cap_place c ≡ i → test c ≡ true → HasFirst set test i → IsAdded set c new → HasFirst new test (i + 1)
first_more set new test c i place passes before added d = (
  λ has. elim ((added d).0 has) [
    | inl old ↦ (let both = (before d).0 old in (omega (arith, both.0), both.1))
    | inr is ↦ (let at : cap_place d ≡ i = ap cap_place is ∙ place in (omega (arith, at), ap test is ∙ passes))
  ],
  λ both. elim (cases_lt (cap_place d) i) [
    | inl below ↦ (added d).1 (inl ((before d).1 (below, both.1)))
    | inr past ↦ (added d).1 (inr (is_last c d i place both.0 past))
  ],
)

pub first_same : (set new : CapSet) (test : Cap → Bool) (c : Cap) (i : ℕ) → cap_place c ≡ i → test c ≡ false → HasFirst set test i → new ≡ set → HasFirst new test (i + 1)
first_same set new test c i place fails before same d = (
  λ has. (let both = (before d).0 (subst (λ s. HasCap s d) same has) in (omega (arith, both.0), both.1)),
  λ both. elim (cases_lt (cap_place d) i) [
    | inl below ↦ subst (λ s. HasCap s d) (sym same) ((before d).1 (below, both.1))
    | inr past ↦ absurd (false≢true (sym fails ∙ ap test (sym (is_last c d i place both.0 past)) ∙ both.1))
  ],
)

flag_is : (flags : List Bool) (i : ℕ) (passes : Bool) → i < length flags → (slice_get flags i ≡ Some true → passes ≡ true) → (passes ≡ true → slice_get flags i ≡ Some true) → get_or flags i false ≡ passes
flag_is flags i true within from to = get_or_from_slice_get flags i true false (to refl)
flag_is flags i false within from to = elim (cases_Bool (get_or flags i false)) [
  | inl set ↦ absurd (false≢true (from (slice_get-get_or flags i false within ∙ ap Some set)))
  | inr clear ↦ clear
]

flag_at : (set : CapSet) (test : Cap → Bool) (n i : ℕ) → length set.flags ≡ 26 → 26 ≤ n → HasFirst set test n → i < 26 → get_or set.flags i false ≡ test (get_or cap_order i ListKeys)
flag_at set test n i size all has below =
    let c : Cap = get_or cap_order i ListKeys in
    let place : cap_place c ≡ i = place_at i below in
    flag_is set.flags i (test c) (omega (arith, size, below))
    (λ is. ((has c).0 (subst (λ p. slice_get set.flags p ≡ Some true) (sym place) is)).1)
    (λ passes. subst (λ p. slice_get set.flags p ≡ Some true) place ((has c).1 (omega (arith, place, below, all), passes)))

same_flags : (set : CapSet) (flags : List Bool) → set.flags ≡ flags → set ≡ record { flags = flags }
same_flags set flags same = ap (λ (f : List Bool). let s : CapSet = record { flags = f } in s) same

pub set_is : (set : CapSet) (test : Cap → Bool) (n : ℕ) → length set.flags ≡ 26 → 26 ≤ n → HasFirst set test n → set ≡ set_by test
set_is set test n size all has =
    same_flags set (map test cap_order) (ext_get_or false set.flags (map test cap_order) size
    (λ i within. flag_at set test n i size all has (omega (arith, size, within)) ∙ sym (get_or-map test cap_order i ListKeys false (omega (arith, size, within)))))
