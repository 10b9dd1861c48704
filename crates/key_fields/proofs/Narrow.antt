-- A field of a narrower kind, from the field of the wider one.
use Rattle.std.proofs.Common.{◌≡◌, ℕ, List, Option, Some, None, Ok, Err, ap}
use Rattle.std.specs.Prelude.{option_and_then}
use Rattle.serde_json.specs.Data.{Data, null, boolean, number, string, array, object}
use Rattle.b2_types.specs.declared.fault.Fault.{Fault}
use Rattle.json_shape.specs.Fields.{field}
use Rattle.field_kinds.specs.Reader.{needed, optional, missing, wrong, if_null, or_wrong, given}

wrong_still : {X Y : Type 0} (key : List ℕ) (narrow : X → Option Y) (o : Option X) (f : Fault) → or_wrong key o ≡ Err f → or_wrong key (option_and_then narrow o) ≡ Err f
wrong_still key narrow None f is = ap Err (let same : wrong key ≡ f = cc is in same)
wrong_still key narrow (Some x) f is = absurd (cc is)

read_on : {X Y : Type 0} (key : List ℕ) (narrow : X → Option Y) (o : Option X) (x : X) → or_wrong key o ≡ Ok x → or_wrong key (option_and_then narrow o) ≡ or_wrong key (narrow x)
read_on key narrow None x is = absurd (cc is)
read_on key narrow (Some y) x is = ap (λ y. or_wrong key (narrow y)) (let same : y ≡ x = cc is in same)

err_by : {X Y : Type 0} (key : List ℕ) (narrow : X → Option Y) (d : Data) (o : Option X) (f : Fault)
    → if_null d (Err (missing key)) (or_wrong key o) ≡ Err f → if_null d (Err (missing key)) (or_wrong key (option_and_then narrow o)) ≡ Err f
err_by key narrow null o f is = ap Err (let same : missing key ≡ f = cc is in same)
err_by key narrow (boolean b) o f is = wrong_still key narrow o f is
err_by key narrow (number n) o f is = wrong_still key narrow o f is
err_by key narrow (string s) o f is = wrong_still key narrow o f is
err_by key narrow (array ds) o f is = wrong_still key narrow o f is
err_by key narrow (object ms) o f is = wrong_still key narrow o f is

ok_by : {X Y : Type 0} (key : List ℕ) (narrow : X → Option Y) (d : Data) (o : Option X) (x : X)
    → if_null d (Err (missing key)) (or_wrong key o) ≡ Ok x → if_null d (Err (missing key)) (or_wrong key (option_and_then narrow o)) ≡ or_wrong key (narrow x)
ok_by key narrow null o x is = absurd (cc is)
ok_by key narrow (boolean b) o x is = read_on key narrow o x is
ok_by key narrow (number n) o x is = read_on key narrow o x is
ok_by key narrow (string s) o x is = read_on key narrow o x is
ok_by key narrow (array ds) o x is = read_on key narrow o x is
ok_by key narrow (object ms) o x is = read_on key narrow o x is

pub needed_err : {X Y : Type 0} (key : List ℕ) (kind : Data → Option X) (narrow : X → Option Y) (d : Data) (f : Fault)
    → needed key kind d ≡ Err f → needed key (λ d. option_and_then narrow (kind d)) d ≡ Err f
needed_err key kind narrow d f is = err_by key narrow (field key d) (kind (field key d)) f is

pub needed_ok : {X Y : Type 0} (key : List ℕ) (kind : Data → Option X) (narrow : X → Option Y) (d : Data) (x : X)
    → needed key kind d ≡ Ok x → needed key (λ d. option_and_then narrow (kind d)) d ≡ or_wrong key (narrow x)
needed_ok key kind narrow d x is = ok_by key narrow (field key d) (kind (field key d)) x is

-- ---- fields that may be absent

given_on : {X Y : Type 0} (key : List ℕ) (narrow : X → Option Y) (o : Option X) (x : X) → given (or_wrong key o) ≡ Ok (Some x) → given (or_wrong key (option_and_then narrow o)) ≡ given (or_wrong key (narrow x))
given_on key narrow None x is = absurd (cc is)
given_on key narrow (Some y) x is = ap (λ y. given (or_wrong key (narrow y))) (let same : y ≡ x = cc is in same)

some_by : {X Y : Type 0} (key : List ℕ) (narrow : X → Option Y) (d : Data) (o : Option X) (x : X)
    → if_null d (Ok None) (given (or_wrong key o)) ≡ Ok (Some x) → if_null d (Ok None) (given (or_wrong key (option_and_then narrow o))) ≡ given (or_wrong key (narrow x))
some_by key narrow null o x is = absurd (cc is)
some_by key narrow (boolean b) o x is = given_on key narrow o x is
some_by key narrow (number n) o x is = given_on key narrow o x is
some_by key narrow (string s) o x is = given_on key narrow o x is
some_by key narrow (array ds) o x is = given_on key narrow o x is
some_by key narrow (object ms) o x is = given_on key narrow o x is

pub optional_some : {X Y : Type 0} (key : List ℕ) (kind : Data → Option X) (narrow : X → Option Y) (d : Data) (x : X)
    → optional key kind d ≡ Ok (Some x) → optional key (λ d. option_and_then narrow (kind d)) d ≡ given (or_wrong key (narrow x))
optional_some key kind narrow d x is = some_by key narrow (field key d) (kind (field key d)) x is
