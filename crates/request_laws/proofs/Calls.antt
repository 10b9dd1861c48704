-- Each call that a request asks for fits the machine, and asks for a range in order.
use Rattle.std.proofs.Common.{inl, inr, ℕ, List, Option, Some, None, sym, subst}
use Rattle.std.specs.Prelude.{codes}
use Rattle.http_header.specs.FieldValue.{FieldValue}
use Rattle.http_header.specs.HeaderMap.{get}
use Rattle.rule_table.specs.declared.call.CallName.{CallName}
use Rattle.rule_table.specs.declared.call.CallName.TheVariants as calls
use Rattle.b2_types.specs.declared.call.ByteRange.{ByteRange}
use Rattle.b2_types.specs.declared.call.Call.{Call}
use Rattle.b2_types.specs.declared.kinds.ApiVersion.{ApiVersion}
use Rattle.b2_types.specs.declared.record.VersionId.{VersionId}
use Rattle.wire_forms.specs.declared.request.Request.{Request}
use Rattle.machine_laws.specs.Ranges.{IsInOrder, AsksInOrder}
use Rattle.sound_steps.specs.FitSteps.{IsFitCall}
use Rattle.field_kinds.specs.Spelled.{file_of}
use Rattle.head_fields.specs.Query.{first_param}
use Rattle.head_fields.specs.Downloads.{range_asked, with_id, with_param, by_id, IsEscaped, IsNamed, IsByName}
use Rattle.request_calls.specs.Asked.{IsCallOf}
use Rattle.request_calls.proofs.Escapes.{Either, escaped_either}
use Rattle.request_laws.proofs.Bodies.{IsWell, body_well}
use Rattle.request_laws.proofs.Ranges.{asked_in_order}

-- ---- downloads

in_order : (r : Request) → IsInOrder (range_asked r)
in_order r = asked_in_order (λ (value : FieldValue). value.bytes) (get r.headers (codes "range"))

with_id_well : (range : Option ByteRange) (id : Option VersionId) → IsInOrder range → IsWell (with_id range id)
with_id_well range None order = (tt, tt)
with_id_well range (Some id) order = (tt, order)

with_param_well : (range : Option ByteRange) (text : Option (List ℕ)) → IsInOrder range → IsWell (with_param range text)
with_param_well range None order = (tt, tt)
with_param_well range (Some text) order = with_id_well range (file_of text) order

by_id_well : (r : Request) → IsWell (by_id r)
by_id_well r = with_param_well (range_asked r) (first_param (codes "fileId") r.query) (in_order r)

named_well : (r : Request) (bucket bytes : List ℕ) (c : Call) → IsNamed r bucket bytes c → IsWell c
named_well r bucket bytes c named = by (escaped_either bytes)
  where
    by : Either (IsEscaped bytes) → IsWell c
    by (inl name) = subst IsWell (sym (named.0 name)) (tt, in_order r)
    by (inr none) = subst IsWell (sym (named.1 none)) (tt, tt)

by_name_well : (r : Request) (c : Call) → IsByName r c → IsWell c
by_name_well r c (bucket, bytes, text, cut, told, named) = named_well r text bytes c named

-- ---- all calls

call_well : (name : CallName) (version : ApiVersion) (r : Request) (body : List ℕ) (c : Call) → IsCallOf name version r body c → IsWell c
call_well calls.AuthorizeAccount version r body c (credentials, has, is) = subst IsWell (sym is) (tt, tt)
call_well calls.DownloadFileById version r body c is = subst IsWell (sym is) (by_id_well r)
call_well calls.DownloadFileByName version r body c is = by_name_well r c is
call_well calls.UploadFile version r body c is = absurd is
call_well calls.UploadPart version r body c is = absurd is
call_well other version r body c is = body_well other version body c is

pub call_fits : (name : CallName) (version : ApiVersion) (r : Request) (body : List ℕ) (c : Call) → IsCallOf name version r body c → IsFitCall c
call_fits name version r body c is = (call_well name version r body c is).0

pub call_in_order : (name : CallName) (version : ApiVersion) (r : Request) (body : List ℕ) (c : Call) → IsCallOf name version r body c → AsksInOrder c
call_in_order name version r body c is = (call_well name version r body c is).1
