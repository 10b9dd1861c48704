-- The call that a request is.
use Rattle.std.specs.Prelude.{◌≡◌, ℕ, List, Option, Some, None, codes}
use Rattle.http_header.specs.FieldValue.{FieldValue}
use Rattle.http_header.specs.HeaderMap.{get}
use Rattle.b2_types.specs.declared.call.Credentials.{Credentials}
use Rattle.wire_forms.specs.declared.request.Request.{Request}
use Rattle.wire_forms.specs.Basic.{IsBasic}

-- the first Authorization header
abbrev pub authorization_of : Request → Option FieldValue
authorization_of r = get r.headers (codes "authorization")

-- it gives this pair
abbrev pub GivesPair : Request → List ℕ → List ℕ → Type 0
GivesPair r id secret = (value : FieldValue) × (authorization_of r ≡ Some value) × IsBasic value.bytes id secret

-- the id and the secret that the request gives, or none
abbrev pub HasCredentials : Request → Option Credentials → Type 0
HasCredentials r None = (id secret : List ℕ) → GivesPair r id secret → ⊥
HasCredentials r (Some c) = GivesPair r c.id c.secret
