-- Capabilities in a field: a list of their names (the B2 reference, b2_create_key).
use Rattle.std.specs.Prelude.{ℕ, List, [], Bool, ◌&&◌, ◌==◌, nat_le, length, map, filter, Option, Some, None, option_and_then, if◌then◌else◌, bytes_eq, slice_index_or}
use Rattle.std.specs.List.{list_any}
use Rattle.serde_json.specs.Data.{Data}
use Rattle.rule_table.specs.declared.cap.Cap.{Cap}
use Rattle.rule_table.specs.declared.cap_set.CapSet.{CapSet}
use Rattle.rule_table.specs.Cap.{cap_order, cap_names, cap_place}
use Rattle.field_kinds.specs.Kinds.{text, list_of}

abbrev pub cap_name : Cap → List ℕ
cap_name c = slice_index_or cap_names (cap_place c) []

abbrev pub is_named : List (List ℕ) → Cap → Bool
is_named names c = list_any (λ name. bytes_eq name (cap_name c)) names

-- the capabilities that are named, in the order of their table
abbrev pub named : List (List ℕ) → List Cap
named names = filter (is_named names) cap_order

-- the set of the capabilities that pass the test
abbrev pub set_by : (Cap → Bool) → CapSet
set_by test = record { flags = map test cap_order }

-- at least one name, each that of a capability and none twice: they name as many capabilities as they are
abbrev pub are_caps : List (List ℕ) → Bool
are_caps names = nat_le 1 (length names) && length (named names) == length names

abbrev pub caps_of : List (List ℕ) → Option CapSet
caps_of names = if are_caps names then Some (set_by (is_named names)) else None

abbrev pub capabilities : Data → Option CapSet
capabilities d = option_and_then caps_of (list_of text d)
