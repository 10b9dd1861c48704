-- Authorize, and a secret that is wrong.
use Rattle.std.specs.Prelude.{ℕ, List, Option, Some, None, codes}
use Rattle.b2_types.specs.declared.call.Credentials.{Credentials}
use Rattle.b2_types.specs.declared.kinds.ApiVersion.TheVariants.{V3}
use Rattle.b2_types.specs.declared.call.Call.TheVariants as call
use Rattle.b2_model.specs.Ask.{Outcome}
use Rattle.worked_rows.specs.Store.{Bytes, open_store, by_token, account}

abbrev pub authorize_with : Option Credentials → Outcome Bytes
authorize_with credentials = by_token open_store 1000 None (call.AuthorizeAccount (record { version = V3; credentials = credentials }))

abbrev pub authorization : Outcome Bytes
authorization = authorize_with (Some (record { id = account; secret = codes "mastersecret01" }))

abbrev pub other_secret : Outcome Bytes
other_secret = authorize_with (Some (record { id = account; secret = codes "mastersecret02" }))

abbrev pub no_header : Outcome Bytes
no_header = authorize_with None

abbrev pub token : List ℕ
token = codes "3_00000001_0000000000000001_0000000000000001_0000000000000002"
