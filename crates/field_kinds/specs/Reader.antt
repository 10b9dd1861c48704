-- How the fields of a request's object are read: in the order of a table, up to the first that is amiss.
use Rattle.std.specs.Prelude.{ℕ, List, Bool, Option, Some, None, Result, Ok, Err, if◌then◌else◌}
use Rattle.serde_json.specs.Data.{Data, null, boolean, number, string, array, object}
use Rattle.rule_table.specs.declared.fault.FaultKind.TheVariants as faults
use Rattle.b2_types.specs.declared.fault.Fault.{Fault}
use Rattle.b2_types.specs.Fault.{with_word}
use Rattle.json_shape.specs.Fields.{field}

-- what an object gives, or the first fault
abbrev pub Reader : Type 0 → Type 0
Reader X = Data → Result X Fault

abbrev pub missing : List ℕ → Fault
missing key = with_word faults.Missing key

abbrev pub wrong : List ℕ → Fault
wrong key = with_word faults.Wrong key

abbrev pub if_null : {Z : Type 0} → Data → Z → Z → Z
if_null null here there = here
if_null (boolean b) here there = there
if_null (number n) here there = there
if_null (string s) here there = there
if_null (array ds) here there = there
if_null (object ms) here there = there

abbrev pub or_wrong : {X : Type 0} → List ℕ → Option X → Result X Fault
or_wrong key None = Err (wrong key)
or_wrong key (Some x) = Ok x

abbrev pub given : {X : Type 0} → Result X Fault → Result (Option X) Fault
given (Ok x) = Ok (Some x)
given (Err f) = Err f

-- a field of this kind, without which there is no call; one that is null is not there
abbrev pub needed : {X : Type 0} → List ℕ → (Data → Option X) → Reader X
needed key kind d = if_null (field key d) (Err (missing key)) (or_wrong key (kind (field key d)))

-- a field of this kind, which may be absent
abbrev pub optional : {X : Type 0} → List ℕ → (Data → Option X) → Reader (Option X)
optional key kind d = if_null (field key d) (Ok None) (given (or_wrong key (kind (field key d))))

abbrev pub applied : {X Y : Type 0} → Result (X → Y) Fault → Result X Fault → Result Y Fault
applied (Err e) r = Err e
applied (Ok f) (Err e) = Err e
applied (Ok f) (Ok x) = Ok (f x)

-- The rows of a table: what is made, and then each field with its key and kind.
infixl 10 ◌with◌
abbrev pub ◌with◌ : {X Y : Type 0} → Reader (X → Y) → Reader X → Reader Y
(make with row) d = applied (make d) (row d)

abbrev pub fields_of : {X : Type 0} → X → Reader X
fields_of make d = Ok make

abbrev pub and_then : {X Y : Type 0} → Result X Fault → (X → Result Y Fault) → Result Y Fault
and_then (Err e) next = Err e
and_then (Ok x) next = next x
