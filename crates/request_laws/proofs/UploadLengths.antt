-- An upload that a head asks for has the length that the head tells.
use Rattle.std.proofs.Common.{◌≡◌, ℕ, Ok, Err, sym, subst, refl}
use Rattle.std.specs.Prelude.{Result, IfOk, codes}
use Rattle.rule_table.specs.declared.call.CallName.{CallName}
use Rattle.rule_table.specs.declared.call.CallName.TheVariants as calls
use Rattle.b2_types.specs.declared.fault.Fault.{Fault}
use Rattle.b2_types.specs.declared.fault.Target.{Target}
use Rattle.b2_types.specs.declared.fault.Target.TheVariants as target
use Rattle.b2_types.specs.declared.upload.FileUpload.{FileUpload}
use Rattle.b2_types.specs.declared.upload.PartUpload.{PartUpload}
use Rattle.b2_types.specs.declared.upload.UploadCall.{UploadCall}
use Rattle.b2_types.specs.declared.upload.UploadCall.TheVariants as upload
use Rattle.wire_forms.specs.declared.request.Request.{Request}
use Rattle.field_kinds.specs.Info.{Pairs}
use Rattle.upload_heads.specs.Table.{Headers, needed, optional}
use Rattle.upload_heads.specs.Kinds.{file_name, content_type, digest_rule, hold, part_number}
use Rattle.upload_heads.specs.Upload.{retention, not_encrypted, file_upload, part_upload, or_bad, IsFileUpload, IsPartUpload}
use Rattle.request_calls.specs.Asked.{IsUploadTo}
use Rattle.request_laws.specs.Lengths.{HasLength}
use Rattle.request_laws.proofs.Rows.{Makes, start, any_row}

file_made : (bucket n : ℕ) (info : Result Pairs Fault) (headers : Headers) → Makes (λ (u : FileUpload). u.length ≡ n) (file_upload bucket n info headers)
file_made bucket n info headers =
    any_row (not_encrypted headers)
    (any_row (retention headers)
    (any_row (optional (codes "x-bz-file-legal-hold") hold headers)
    (any_row info
    (any_row (needed (codes "x-bz-content-sha1") digest_rule headers)
    (any_row (needed (codes "content-type") content_type headers)
    (any_row (needed (codes "x-bz-file-name") file_name headers)
    (start _ (λ name kind digest pairs on r none. refl))))))))

part_made : (bucket file n : ℕ) (headers : Headers) → Makes (λ (p : PartUpload). p.length ≡ n) (part_upload bucket file n headers)
part_made bucket file n headers =
    any_row (not_encrypted headers)
    (any_row (needed (codes "x-bz-content-sha1") digest_rule headers)
    (any_row (needed (codes "x-bz-part-number") part_number headers)
    (start _ (λ number digest none. refl))))

has_length : {U : Type 0} (n : ℕ) (name : CallName) (t : Target) (wrap : U → UploadCall) (o : Result U Fault) → IfOk o (λ u. HasLength n (wrap u)) → HasLength n (or_bad name t wrap o)
has_length n name t wrap (Ok u) has = has
has_length n name t wrap (Err f) has = tt

file_length : (r : Request) (bucket : ℕ) (u : UploadCall) → IsFileUpload r bucket u → HasLength r.length u
file_length r bucket u (info, reads, is) =
    subst (HasLength r.length) (sym is)
    (has_length r.length calls.UploadFile (target.Bucket bucket) (λ f. upload.File f) (file_upload bucket r.length info r.headers) (file_made bucket r.length info r.headers).is)

part_length : (r : Request) (bucket file : ℕ) (u : UploadCall) → IsPartUpload r bucket file u → HasLength r.length u
part_length r bucket file u is =
    subst (HasLength r.length) (sym is)
    (has_length r.length calls.UploadPart (target.File bucket file) (λ p. upload.Part p) (part_upload bucket file r.length r.headers) (part_made bucket file r.length r.headers).is)

pub upload_length : (t : Target) (r : Request) (u : UploadCall) → IsUploadTo t r u → HasLength r.length u
upload_length target.Nothing r u is = absurd is
upload_length (target.Bucket bucket) r u is = file_length r bucket u is
upload_length (target.File bucket file) r u is = part_length r bucket file u is
