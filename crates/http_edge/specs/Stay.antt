-- Whether a client asks for another request on its connection (RFC 9112, section 9.3).
use Rattle.std.specs.Prelude.{ℕ, Bool, not, ◌&&◌, ◌==◌, List, [], ◌∷◌, if◌then◌else◌, codes, bytes_eq}
use Rattle.std.specs.List.{list_any}
use Rattle.httparse.specs.Grammar.{trim_ows}
use Rattle.http_header.specs.FieldValue.{FieldValue}
use Rattle.http_header.specs.HeaderMap.{Entries, get_all}
use Rattle.http_header.specs.Token.{lowercase}

-- the byte stands in front of the first part
abbrev pub with_first : ℕ → List (List ℕ) → List (List ℕ)
with_first byte [] = (byte ∷ []) ∷ []
with_first byte (part ∷ parts) = (byte ∷ part) ∷ parts

-- the parts between commas
abbrev pub comma_parts : List ℕ → List (List ℕ)
comma_parts [] = [] ∷ []
comma_parts (byte ∷ bytes) = if byte == 44 then [] ∷ comma_parts bytes else with_first byte (comma_parts bytes)

-- the part is this option, which is given in lower case: spaces and tabs round it and the case of its
-- letters are no part of it
abbrev pub is_option : List ℕ → List ℕ → Bool
is_option option part = bytes_eq (lowercase (trim_ows part)) option

-- the options of a value are parted by commas (RFC 9110, sections 5.6.1 and 7.6.1)
abbrev pub lists : List ℕ → List ℕ → Bool
lists option value = list_any (is_option option) (comma_parts value)

-- some Connection header lists the option
abbrev pub has_option : List ℕ → Entries FieldValue → Bool
has_option option headers = list_any (λ value. lists option value.bytes) (get_all headers (codes "connection"))

abbrev pub asks_stay : Entries FieldValue → Bool
asks_stay headers = has_option (codes "keep-alive") headers && not (has_option (codes "close") headers)
