-- Fields of what the store does not offer (the B2 reference, "CORS" and "Server-side encryption").
use Rattle.std.specs.Prelude.{⊤, ℕ, List, Bool, true, false, codes, if◌then◌else◌, bytes_eq, ◌||◌, Ok, Err}
use Rattle.serde_json.specs.Data.{Data, null, boolean, number, string, array, object, Items, no_items, item}
use Rattle.json_shape.specs.Fields.{field}
use Rattle.rule_table.specs.declared.fault.FaultKind.TheVariants as faults
use Rattle.b2_types.specs.Fault.{with_word}
use Rattle.field_kinds.specs.Reader.{Reader}

abbrev pub is_null : Data → Bool
is_null null = true
is_null (boolean b) = false
is_null (number n) = false
is_null (string s) = false
is_null (array ds) = false
is_null (object ms) = false

abbrev pub has_items : Items → Bool
has_items no_items = false
has_items (item d ds) = true

-- null or an empty list
abbrev pub is_no_list : Data → Bool
is_no_list null = true
is_no_list (boolean b) = false
is_no_list (number n) = false
is_no_list (string s) = false
is_no_list (array ds) = if has_items ds then false else true
is_no_list (object ms) = false

-- null or `none`
abbrev pub is_no_mode : Data → Bool
is_no_mode null = true
is_no_mode (boolean b) = false
is_no_mode (number n) = false
is_no_mode (string s) = bytes_eq s (codes "none")
is_no_mode (array ds) = false
is_no_mode (object ms) = false

-- null, or an object whose mode is none
abbrev pub is_no_encryption : Data → Bool
is_no_encryption null = true
is_no_encryption (boolean b) = false
is_no_encryption (number n) = false
is_no_encryption (string s) = false
is_no_encryption (array ds) = false
is_no_encryption (object ms) = is_no_mode (field (codes "mode") (object ms))

-- a field that may ask for nothing
unfoldable pub idle : List ℕ → (Data → Bool) → Reader ⊤
idle key test d = if test (field key d) then Ok tt else Err (with_word faults.Unsupported key)
