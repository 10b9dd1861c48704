-- Sets of capabilities, by the places of the capabilities.
use Rattle.std.proofs.Common.{◌≡◌, ℕ, ◌<◌, Bool, true, List, Option, None, Some, is_some, slice_get, sym, subst, refl}
use Rattle.std.proofs.lemmas.Bool.{false≢true}
use Rattle.std.proofs.lemmas.Option.{slice_get_within}
use Rattle.rule_table.specs.declared.cap.Cap.{Cap}
use Rattle.rule_table.specs.declared.cap.TheConstants.{CAPS}
use Rattle.rule_table.specs.Cap.{cap_order, cap_place, cap_there, cap_here}
use Rattle.rule_table.specs.CapSet.{IsSet, IsWithin}
use Rattle.rule_table.proofs.Filled.{full_order}

found_cap : (o : Option Cap) (place : ℕ) → slice_get cap_order place ≡ o → is_some o ≡ true → (c : Cap) × (cap_place c ≡ place)
found_cap None place is some = absurd (false≢true some)
found_cap (Some c) place is some = (c, cap_here place c is)

-- each place below their count is that of a capability
cap_at : (place : ℕ) → place < CAPS → (c : Cap) × (cap_place c ≡ place)
cap_at place within = found_cap (slice_get cap_order place) place refl ((full_order cap_order place).1 within)

place_within : (c : Cap) → cap_place c < CAPS
place_within c = slice_get_within cap_order (cap_place c) c (cap_there c)

pub by_places : (held others : List Bool) → IsWithin held others → (c : Cap) → IsSet held (cap_place c) → IsSet others (cap_place c)
by_places held others within c set = within (cap_place c) (place_within c) set

pub by_caps : (held others : List Bool) → ((c : Cap) → IsSet held (cap_place c) → IsSet others (cap_place c)) → IsWithin held others
by_caps held others each place within set =
    let found = cap_at place within in
    subst (λ p. IsSet others p) found.1 (each found.0 (subst (λ p. IsSet held p) (sym found.1) set))
