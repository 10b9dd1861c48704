-- The route of an upload names its target and asks for an upload alone, and the route of a call asks for a call.
use Rattle.std.proofs.Common.{◌≡◌, ℕ, true, false, List, sym, subst}
use Rattle.std.proofs.lemmas.Bool.{false≢true}
use Rattle.rule_table.specs.declared.call.CallName.{CallName}
use Rattle.rule_table.specs.declared.call.CallName.TheVariants as calls
use Rattle.b2_types.specs.declared.call.Call.{Call}
use Rattle.b2_types.specs.declared.fault.Target.{Target}
use Rattle.b2_types.specs.declared.fault.Target.TheVariants as target
use Rattle.b2_types.specs.declared.kinds.ApiVersion.{ApiVersion}
use Rattle.b2_types.specs.declared.upload.UploadCall.{UploadCall}
use Rattle.wire_forms.specs.declared.request.Request.{Request}
use Rattle.call_paths.specs.declared.routes.Route.{Route}
use Rattle.call_paths.specs.Path.{IsPathOf, IsPath}
use Rattle.http_edge.specs.Length.{is_upload}
use Rattle.request_calls.specs.declared.asked.Asked.TheVariants as asked
use Rattle.request_calls.specs.declared.asked.Asking.{Asking}
use Rattle.request_calls.specs.Asked.{IsCallOf, IsUploadTo, IsAskedOf, IsAsking}

-- ---- targets

names_target : (path : List ℕ) (version : ApiVersion) (t : Target) (name : CallName) → IsPathOf path version t name → is_upload name ≡ true → t ≡ target.Nothing → ⊥
names_target path version t calls.UploadFile (bucket, low, is, text) begins none = absurd (cc (is, none))
names_target path version t calls.UploadPart (bucket, file, low, few, is, text) begins none = absurd (cc (is, none))
names_target path version t other is begins none = absurd (false≢true begins)

pub target_named : (path : List ℕ) (route : Route) → IsPath path route → is_upload route.name ≡ true → route.target ≡ target.Nothing → ⊥
target_named path route is begins none = names_target path route.version route.target route.name is.is begins none

-- ---- what is asked

never_upload : (path : List ℕ) (version : ApiVersion) (t : Target) (name : CallName) (r : Request) (u : UploadCall) → IsPathOf path version t name → is_upload name ≡ false → IsUploadTo t r u → ⊥
never_upload path version t calls.UploadFile r u is none begins = absurd (false≢true (sym none))
never_upload path version t calls.UploadPart r u is none begins = absurd (false≢true (sym none))
never_upload path version t calls.DownloadFileByName r u is none begins =
    let P : Target → Type 0 = λ t. IsUploadTo t r u in subst P is.0 begins
never_upload path version t other r u is none begins =
    let P : Target → Type 0 = λ t. IsUploadTo t r u in subst P is.0 begins

never_call : (name : CallName) (version : ApiVersion) (r : Request) (body : List ℕ) (c : Call) → is_upload name ≡ true → IsCallOf name version r body c → ⊥
never_call calls.UploadFile version r body c begins is = is
never_call calls.UploadPart version r body c begins is = is
never_call other version r body c begins is = absurd (false≢true begins)

pub asks_no_upload : (path : List ℕ) (route : Route) (r : Request) (body : List ℕ) (asking : Asking) → IsPath path route → is_upload route.name ≡ false → IsAsking route r body asking
    → (u : UploadCall) → asking.asked ≡ asked.Upload u → ⊥
asks_no_upload path route r body asking is none asks u told =
    never_upload path route.version route.target route.name r u is.is none (subst (IsAskedOf route r body) told asks.1)

pub asks_no_call : (route : Route) (r : Request) (body : List ℕ) (asking : Asking) → is_upload route.name ≡ true → IsAsking route r body asking
    → (c : Call) → asking.asked ≡ asked.Call c → ⊥
asks_no_call route r body asking begins asks c told =
    never_call route.name route.version r body c begins (subst (IsAskedOf route r body) told asks.1)
