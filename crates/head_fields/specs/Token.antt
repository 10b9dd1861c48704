-- The token that a request is made with (the B2 reference, "Authorization").
use Rattle.std.specs.Prelude.{◌≡◌, ◌⊎◌, ℕ, List, [], Option, Some, None, codes, IsUtf8}
use Rattle.http_header.specs.FieldValue.{FieldValue}
use Rattle.http_header.specs.HeaderMap.{get}
use Rattle.wire_forms.specs.declared.request.Request.{Request}
use Rattle.head_fields.specs.Query.{first_param}

abbrev pub authorization_of : Request → Option FieldValue
authorization_of r = get r.headers (codes "authorization")

-- the text of these bytes; bytes that are no text count as the empty one, which no token has
abbrev pub IsTextOf : List ℕ → List ℕ → Type 0
IsTextOf bytes text = (IsUtf8 bytes → text ≡ bytes) × ((IsUtf8 bytes → ⊥) → text ≡ [])

-- what the first Authorization header says
abbrev pub IsToken : Request → Option (List ℕ) → Type 0
IsToken r None = authorization_of r ≡ None
IsToken r (Some text) = (value : FieldValue) × (authorization_of r ≡ Some value) × IsTextOf value.bytes text

-- the query's first parameter of that name, where there is no such header
abbrev pub IsQueryToken : Request → Option (List ℕ) → Type 0
IsQueryToken r token = (authorization_of r ≡ None) × (token ≡ first_param (codes "Authorization") r.query)

-- a download's: the header's, or else the query's
abbrev pub IsDownloadToken : Request → Option (List ℕ) → Type 0
IsDownloadToken r None = IsQueryToken r None
IsDownloadToken r (Some text) = IsToken r (Some text) ⊎ IsQueryToken r (Some text)
