-- The fields of an object.
use Rattle.std.specs.Prelude.{◌≡◌, ℕ, List, Option, Some, None, Result, Ok, Err, ⊤, nat_le, ◌&&◌, if◌then◌else◌, option_and_then}
use Rattle.serde_json.specs.Data.{Data, null, boolean, number, string, array, object}
use Rattle.serde_json.specs.Find.{get, as_number, as_u64}
use Rattle.b2_base.specs.declared.failure.Or.{Or}
use Rattle.b2_base.specs.declared.failure.Or.TheVariants as or
use Rattle.json_shape.specs.declared.fields.FieldFault.{FieldFault}
use Rattle.json_shape.specs.declared.fields.FieldFault.TheVariants.{Missing, Wrong}

abbrev pub or_null : Option Data → Data
or_null None = null
or_null (Some d) = d

-- what stands at the key: null where the key isn't there
abbrev pub field : List ℕ → Data → Data
field key d = or_null (get key d)

abbrev pub or_wrong : {X : Type 0} → List ℕ → Option X → Result X FieldFault
or_wrong key (Some x) = Ok x
or_wrong key None = Err (Wrong key)

-- a value of the kind: missing where it is null, wrong where it is of another kind
abbrev pub of_kind : {X : Type 0} → (Data → Option X) → List ℕ → Data → Result X FieldFault
of_kind kind key null = Err (Missing key)
of_kind kind key (boolean b) = or_wrong key (kind (boolean b))
of_kind kind key (number n) = or_wrong key (kind (number n))
of_kind kind key (string s) = or_wrong key (kind (string s))
of_kind kind key (array ds) = or_wrong key (kind (array ds))
of_kind kind key (object ms) = or_wrong key (kind (object ms))

-- the field of this kind at the key
abbrev pub needed_field : {X : Type 0} → (Data → Option X) → List ℕ → Data → Result X FieldFault
needed_field kind key d = of_kind kind key (field key d)

abbrev pub if_within : ℕ → ℕ → ℕ → Option ℕ
if_within low high n = if nat_le low n && nat_le n high then Some n else None

-- a whole number from low to high
abbrev pub number_within : ℕ → ℕ → Data → Option ℕ
number_within low high d = option_and_then (if_within low high) (option_and_then as_u64 (as_number d))

-- an object
abbrev pub object_alone : Data → Option Data
object_alone null = None
object_alone (boolean b) = None
object_alone (number n) = None
object_alone (string s) = None
object_alone (array ds) = None
object_alone (object ms) = Some (object ms)

-- the answer is what is to be read, or want of memory
abbrev pub Gives : {T X F : Type 0} → (T → X) → Result T (Or F) → Result X F → Type 0
Gives view (Ok x) read = read ≡ Ok (view x)
Gives view (Err or.Memory) read = ⊤
Gives view (Err (or.Fault f)) read = read ≡ Err f

-- the fault is the one that is to be told, or want of memory
abbrev pub Fails : {X F : Type 0} → Or F → Result X F → Type 0
Fails or.Memory read = ⊤
Fails (or.Fault f) read = read ≡ Err f
