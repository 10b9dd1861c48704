-- What a routed request asks for: a call or an upload, with the token that it is made with. The table has all
-- calls: those whose body is an object of JSON, and the five that are told by their heads (the B2 reference).
use Rattle.std.specs.Prelude.{◌≡◌, ℕ, List, Option, None}
use Rattle.rule_table.specs.declared.call.CallName.{CallName}
use Rattle.rule_table.specs.declared.call.CallName.TheVariants as calls
use Rattle.b2_types.specs.declared.call.Call.{Call}
use Rattle.b2_types.specs.declared.call.Call.TheVariants as call
use Rattle.b2_types.specs.declared.call.Credentials.{Credentials}
use Rattle.b2_types.specs.declared.fault.Target.{Target}
use Rattle.b2_types.specs.declared.fault.Target.TheVariants as target
use Rattle.b2_types.specs.declared.kinds.ApiVersion.{ApiVersion}
use Rattle.b2_types.specs.declared.upload.UploadCall.{UploadCall}
use Rattle.wire_forms.specs.declared.request.Request.{Request}
use Rattle.call_paths.specs.declared.routes.Route.{Route}
use Rattle.api_json.specs.Call.{HasCredentials}
use Rattle.call_fields.specs.Call.{IsCall}
use Rattle.head_fields.specs.Token.{IsToken, IsDownloadToken}
use Rattle.head_fields.specs.Downloads.{by_id, IsByName}
use Rattle.upload_heads.specs.Upload.{IsFileUpload, IsPartUpload}
use Rattle.request_calls.specs.declared.asked.Asked.{Asked}
use Rattle.request_calls.specs.declared.asked.Asked.TheVariants as asked
use Rattle.request_calls.specs.declared.asked.Asking.{Asking}

-- with what it is made: an authorize call gives credentials and no token, and a download's token may stand in
-- the query
abbrev pub IsTokenOf : CallName → Request → Option (List ℕ) → Type 0
IsTokenOf calls.AuthorizeAccount r token = token ≡ None
IsTokenOf calls.DownloadFileById r token = IsDownloadToken r token
IsTokenOf calls.DownloadFileByName r token = IsDownloadToken r token
IsTokenOf other r token = IsToken r token

-- the call is to authorize, with the credentials that the request gives
abbrev pub IsAuthorize : ApiVersion → Request → Call → Type 0
IsAuthorize version r c =
    (credentials : Option Credentials) × HasCredentials r credentials × (c ≡ call.AuthorizeAccount (record { version = version; credentials = credentials }))

-- the call of this name and version; the uploads are none
abbrev pub IsCallOf : CallName → ApiVersion → Request → List ℕ → Call → Type 0
IsCallOf calls.AuthorizeAccount version r body c = IsAuthorize version r c
IsCallOf calls.DownloadFileById version r body c = c ≡ by_id r
IsCallOf calls.DownloadFileByName version r body c = IsByName r c
IsCallOf calls.UploadFile version r body c = ⊥
IsCallOf calls.UploadPart version r body c = ⊥
IsCallOf other version r body c = IsCall other version body c

-- the upload to what the path names
abbrev pub IsUploadTo : Target → Request → UploadCall → Type 0
IsUploadTo target.Nothing r u = ⊥
IsUploadTo (target.Bucket bucket) r u = IsFileUpload r bucket u
IsUploadTo (target.File bucket file) r u = IsPartUpload r bucket file u

abbrev pub IsAskedOf : Route → Request → List ℕ → Asked → Type 0
IsAskedOf route r body (asked.Call c) = IsCallOf route.name route.version r body c
IsAskedOf route r body (asked.Upload u) = IsUploadTo route.target r u

-- what the request asks for, on this route and with this body; of an upload the head tells it
abbrev pub IsAsking : Route → Request → List ℕ → Asking → Type 0
IsAsking route r body asking = IsTokenOf route.name r asking.token × IsAskedOf route r body asking.asked
