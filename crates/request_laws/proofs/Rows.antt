-- What holds of what a table makes, from what holds of its rows.
use Rattle.std.proofs.Common.{◌≡◌, List, ℕ, Option, Some, None, Ok, Err, refl}
use Rattle.std.specs.Prelude.{Result, IfOk}
use Rattle.serde_json.specs.Data.{Data, null, boolean, number, string, array, object}
use Rattle.json_shape.specs.Fields.{field}
use Rattle.b2_types.specs.declared.fault.Fault.{Fault}
use Rattle.field_kinds.specs.Reader.{optional, applied, if_null, or_wrong, given}

-- it holds of what is made of each value
abbrev pub Each : {X Y : Type 0} → (Y → Type 0) → (X → Y) → Type 0
Each {X = X} Q make = (x : X) → Q (make x)

-- and of each value of which this holds
abbrev pub EachThat : {X Y : Type 0} → (X → Type 0) → (Y → Type 0) → (X → Y) → Type 0
EachThat {X = X} P Q make = (x : X) → P x → Q (make x)

-- it holds of what is made, where nothing is amiss
pub record Makes {X : Type 0} (Q : X → Type 0) (made : Result X Fault) : Type 0 where
  pub is : IfOk made Q

-- what is made of values by themselves
pub start : {X : Type 0} {Q : X → Type 0} (make : X) → Q make → Makes Q (Ok make)
start make holds = record { is = holds }

applied_any : {X Y : Type 0} (Q : Y → Type 0) (make : Result (X → Y) Fault) (row : Result X Fault) → IfOk make (Each Q) → IfOk (applied make row) Q
applied_any Q (Err e) row holds = tt
applied_any Q (Ok f) (Err e) holds = tt
applied_any Q (Ok f) (Ok x) holds = holds x

applied_known : {X Y : Type 0} (P : X → Type 0) (Q : Y → Type 0) (make : Result (X → Y) Fault) (row : Result X Fault) → IfOk row P → IfOk make (EachThat P Q) → IfOk (applied make row) Q
applied_known P Q (Err e) row is holds = tt
applied_known P Q (Ok f) (Err e) is holds = tt
applied_known P Q (Ok f) (Ok x) is holds = holds x is

-- a row of which nothing is known
pub any_row : {X Y : Type 0} {Q : Y → Type 0} {make : Result (X → Y) Fault} (row : Result X Fault) → Makes (Each Q) make → Makes Q (applied make row)
any_row {Q = Q} {make = make} row holds = record { is = applied_any Q make row holds.is }

-- a row of which this is known
pub known_row : {X Y : Type 0} {P : X → Type 0} {Q : Y → Type 0} {make : Result (X → Y) Fault} {row : Result X Fault} → Makes P row → Makes (EachThat P Q) make → Makes Q (applied make row)
known_row {P = P} {Q = Q} {make = make} {row = row} is holds = record { is = applied_known P Q make row is.is holds.is }

-- ---- a row that may be absent

given_row : {X : Type 0} (key : List ℕ) (P : Option X → Type 0) (o : Option X) → ((x : X) → o ≡ Some x → P (Some x)) → IfOk (given (or_wrong key o)) P
given_row key P None each = tt
given_row key P (Some x) each = each x refl

null_or : {X : Type 0} (key : List ℕ) (P : Option X → Type 0) (d : Data) (o : Option X) → P None → ((x : X) → o ≡ Some x → P (Some x)) → IfOk (if_null d (Ok None) (given (or_wrong key o))) P
null_or key P null o none each = none
null_or key P (boolean b) o none each = given_row key P o each
null_or key P (number n) o none each = given_row key P o each
null_or key P (string s) o none each = given_row key P o each
null_or key P (array ds) o none each = given_row key P o each
null_or key P (object ms) o none each = given_row key P o each

pub optional_row : {X : Type 0} (key : List ℕ) (kind : Data → Option X) (P : Option X → Type 0) (d : Data) → P None → ((x : X) → kind (field key d) ≡ Some x → P (Some x)) → Makes P (optional key kind d)
optional_row key kind P d none each = record { is = null_or key P (field key d) (kind (field key d)) none each }
