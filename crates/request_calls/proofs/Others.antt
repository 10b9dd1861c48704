-- The calls that are told by the body of the request, with its token.
use Rattle.std.proofs.Common.{◌≡◌, ℕ, List, Option, refl}
use Rattle.rule_table.specs.declared.call.CallName.{CallName}
use Rattle.rule_table.specs.declared.call.CallName.TheVariants as calls
use Rattle.b2_types.specs.declared.call.Call.{Call}
use Rattle.b2_types.specs.declared.kinds.ApiVersion.{ApiVersion}
use Rattle.wire_forms.specs.declared.request.Request.{Request}
use Rattle.call_fields.specs.Call.{IsCall}
use Rattle.head_fields.specs.Token.{IsToken}
use Rattle.request_calls.specs.Asked.{IsTokenOf, IsCallOf}

-- none of the five that are told by their heads
pub record IsOther (name : CallName) : Type 0 where
  pub authorize : name ≡ calls.AuthorizeAccount → ⊥
  pub file : name ≡ calls.UploadFile → ⊥
  pub part : name ≡ calls.UploadPart → ⊥
  pub by_id : name ≡ calls.DownloadFileById → ⊥
  pub by_name : name ≡ calls.DownloadFileByName → ⊥

pub token_of_other : (name : CallName) (r : Request) (token : Option (List ℕ)) → IsOther name → IsToken r token → IsTokenOf name r token
token_of_other calls.AuthorizeAccount r token is given = absurd (is.authorize refl)
token_of_other calls.DownloadFileById r token is given = absurd (is.by_id refl)
token_of_other calls.DownloadFileByName r token is given = absurd (is.by_name refl)
token_of_other other r token is given = given

pub call_of_other : (name : CallName) (version : ApiVersion) (r : Request) (body : List ℕ) (c : Call) → IsOther name → IsCall name version body c → IsCallOf name version r body c
call_of_other calls.AuthorizeAccount version r body c is told = absurd (is.authorize refl)
call_of_other calls.DownloadFileById version r body c is told = absurd (is.by_id refl)
call_of_other calls.DownloadFileByName version r body c is told = absurd (is.by_name refl)
call_of_other calls.UploadFile version r body c is told = absurd (is.file refl)
call_of_other calls.UploadPart version r body c is told = absurd (is.part refl)
call_of_other other version r body c is told = told
