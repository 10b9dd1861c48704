-- How the headers of an upload are read: in the order of a table, up to the first that is amiss (RFC 9110,
-- section 5; the B2 reference, b2_upload_file and b2_upload_part).
use Rattle.std.specs.Prelude.{ℕ, List, [], ◌∷◌, Bool, Option, Some, None, is_some, if◌then◌else◌, Result, Ok, Err}
use Rattle.http_header.specs.FieldValue.{FieldValue}
use Rattle.http_header.specs.HeaderMap.{Entries, get, get_all}
use Rattle.rule_table.specs.declared.fault.FaultKind.TheVariants as faults
use Rattle.b2_types.specs.declared.fault.Fault.{Fault}
use Rattle.b2_types.specs.Fault.{with_word}
use Rattle.field_kinds.specs.Reader.{given, applied}

-- the headers of a request: names in lower case, each with its values
abbrev pub Headers : Type 0
Headers = Entries FieldValue

-- what the headers give, or the first fault
abbrev pub Row : Type 0 → Type 0
Row X = Headers → Result X Fault

-- the header is missing where it is needed, stands twice, or is of another kind
abbrev pub bad_header : List ℕ → Fault
bad_header name = with_word faults.BadHeader name

abbrev pub or_bad : {X : Type 0} → List ℕ → Option X → Result X Fault
or_bad name None = Err (bad_header name)
or_bad name (Some x) = Ok x

-- what the values under a name are, where they are one alone and it is of the kind
abbrev pub alone : {X : Type 0} → (List ℕ → Option X) → List FieldValue → Option X
alone kind [] = None
alone kind (value ∷ []) = kind value.bytes
alone kind (value ∷ other ∷ more) = None

-- a header of this kind, without which there is no upload
unfoldable pub needed : {X : Type 0} → List ℕ → (List ℕ → Option X) → Row X
needed name kind headers = or_bad name (alone kind (get_all headers name))

unfoldable pub is_given : List ℕ → Headers → Bool
is_given name headers = is_some (get headers name)

-- a header of this kind, which may be absent
unfoldable pub optional : {X : Type 0} → List ℕ → (List ℕ → Option X) → Row (Option X)
optional name kind headers = if is_given name headers then given (needed name kind headers) else Ok None

-- The rows of a table: what is made, and then each header with its name and kind.
infixl 10 ◌with◌
abbrev pub ◌with◌ : {X Y : Type 0} → Row (X → Y) → Row X → Row Y
(make with row) headers = applied (make headers) (row headers)

abbrev pub rows_of : {X : Type 0} → X → Row X
rows_of make headers = Ok make
