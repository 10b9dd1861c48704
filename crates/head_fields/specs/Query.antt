-- Parameters of a query, in the form of web forms (the URL Standard, section 5.1).
use Rattle.std.specs.Prelude.{ℕ, List, [], ◌∷◌, Option, Some, None, if◌then◌else◌, bytes_eq}
use Rattle.std.specs.Str.Lossy.{utf8_lossy}
use Rattle.form_urlencoded.specs.Form.{raw_pairs, decode}

abbrev pub text_of : List ℕ → List ℕ
text_of bytes = utf8_lossy (decode bytes)

-- the value of the first parameter of this name
abbrev pub value_in : List ℕ → List (List ℕ × List ℕ) → Option (List ℕ)
value_in name [] = None
value_in name (p ∷ ps) = if bytes_eq (text_of p.0) name then Some (text_of p.1) else value_in name ps

abbrev pub first_param : List ℕ → List ℕ → Option (List ℕ)
first_param name query = value_in name (raw_pairs query)
