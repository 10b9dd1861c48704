-- Sets of capabilities, kept as flags by the places of the capabilities.
use Rattle.std.specs.Prelude.{◌≡◌, ◌<◌, ◌==◌, ℕ, Bool, true, false, List, Some, map, slice_get, slice_index_or}
use Rattle.std.specs.List.{list_any}
use Rattle.rule_table.specs.declared.cap.Cap.{Cap}
use Rattle.rule_table.specs.declared.cap.TheConstants.{CAPS}
use Rattle.rule_table.specs.declared.cap_set.CapSet.{CapSet}
use Rattle.rule_table.specs.Cap.{cap_place, cap_order}

-- the flag at this place is set
abbrev pub IsSet : List Bool → ℕ → Type 0
IsSet flags place = slice_get flags place ≡ Some true

-- the capability is in the set
abbrev pub HasCap : CapSet → Cap → Type 0
HasCap set c = IsSet set.flags (cap_place c)

-- each flag of a capability that is set is set in the others too
abbrev pub IsWithin : List Bool → List Bool → Type 0
IsWithin flags others = (place : ℕ) → place < CAPS → IsSet flags place → IsSet others place

-- whether the capability is in the set
abbrev pub has : CapSet → Cap → Bool
has set c = slice_index_or set.flags (cap_place c) false

-- the set of these capabilities
abbrev pub set_of : List Cap → CapSet
set_of caps = record { flags = map (λ c. list_any (λ d. cap_place c == cap_place d) caps) cap_order }
