-- A reading of requests that reads each of them.
use Rattle.std.specs.Prelude.{◌≡◌, ℕ, true, false, List, Option}
use Rattle.b2_types.specs.declared.call.Call.{Call}
use Rattle.b2_types.specs.declared.upload.UploadCall.{UploadCall}
use Rattle.wire_forms.specs.declared.request.Request.{Request}
use Rattle.call_paths.specs.declared.routes.Route.{Route}
use Rattle.http_edge.specs.declared.head.Head.{Head}
use Rattle.http_edge.specs.Length.{is_upload}
use Rattle.http_edge.specs.Request.{IsRequest}
use Rattle.conn_talk.specs.Asked.{head_of}
use Rattle.served_world.specs.Replies.{Reads}

-- some bytes are this head, wherever on its connection the request stands
abbrev pub IsHeadRead : Head → Type 0
IsHeadRead head = (before : ℕ) × (bytes : List ℕ) × (r : Request) × (route : Route) × IsRequest bytes r route × (head ≡ head_of before r route)

-- whatever a head is that is read, it is that of an upload, or with any body it is that of a call
pub record ReadsAll (R : Reads) : Type 0 where
  pub call : (head : Head) (body : List ℕ) → IsHeadRead head → is_upload head.route.name ≡ false → (token : Option (List ℕ)) × (call : Call) × R.call head body token call
  pub upload : (head : Head) → IsHeadRead head → is_upload head.route.name ≡ true → (token : Option (List ℕ)) × (u : UploadCall) × R.upload head token u
