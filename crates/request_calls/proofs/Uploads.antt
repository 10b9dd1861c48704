-- The head of an upload is one upload.
use Rattle.std.proofs.Common.{◌≡◌, ℕ, List, [], ◌∷◌, Option, None, Some, Result, Ok, Err, sym, ap, ◌∙◌, refl}
use Rattle.std.specs.Prelude.{unwrap_or}
use Rattle.serde_json.specs.Data.{Members, no_members, member, string, object}
use Rattle.name_rules.specs.InfoPairs.{AreInfo, IsArranged}
use Rattle.rule_table.specs.declared.call.CallName.TheVariants as calls
use Rattle.b2_types.specs.declared.fault.Fault.{Fault}
use Rattle.b2_types.specs.declared.fault.Target.{Target}
use Rattle.b2_types.specs.declared.fault.Target.TheVariants as target
use Rattle.b2_types.specs.declared.upload.UploadCall.{UploadCall}
use Rattle.b2_types.specs.declared.upload.UploadCall.TheVariants as upload
use Rattle.wire_forms.specs.declared.request.Request.{Request}
use Rattle.field_kinds.specs.Info.{Pairs, texts_of}
use Rattle.field_kinds.specs.Kinds.{with_front}
use Rattle.call_fields.proofs.Arranged.{one_info}
use Rattle.upload_heads.specs.Table.{Headers}
use Rattle.upload_heads.specs.Information.{info_names, first_amiss, pairs_of, AreKeptAs, IsInfoBy, IsInfoOf}
use Rattle.upload_heads.specs.Upload.{file_upload, or_bad, IsFileUpload}
use Rattle.request_calls.specs.Asked.{IsUploadTo}

-- the pairs as the members of an object: what it gives as information is one
as_members : Pairs → Members
as_members [] = no_members
as_members (p ∷ ps) = member p.0 (string p.1) (as_members ps)

read_back : (pairs : Pairs) → texts_of (as_members pairs) ≡ Some pairs
unfolding as_members
read_back [] = refl
read_back (p ∷ ps) = ap (λ found. with_front (p ∷ []) found) (read_back ps)

one_arranged : (pairs a b : Pairs) → AreInfo pairs → IsArranged pairs a → IsArranged pairs b → a ≡ b
one_arranged pairs a b are first second =
    ap (λ o. unwrap_or o a) (one_info (object (as_members pairs)) (Some a) (Some b) (pairs, read_back pairs, are, first) (pairs, read_back pairs, are, second))

one_kept : (pairs : Pairs) (a b : Result Pairs Fault) → AreKeptAs pairs a → AreKeptAs pairs b → a ≡ b
one_kept pairs (Ok a) (Ok b) first second = ap Ok (one_arranged pairs a b first.0 first.1 second.1)
one_kept pairs (Ok a) (Err f) first second = absurd (second.0 first.0)
one_kept pairs (Err e) (Ok b) first second = absurd (first.0 second.0)
one_kept pairs (Err e) (Err f) first second = ap Err (first.1 ∙ sym second.1)

one_info_by : (amiss : Option (List ℕ)) (pairs : Pairs) (a b : Result Pairs Fault) → IsInfoBy amiss pairs a → IsInfoBy amiss pairs b → a ≡ b
one_info_by None pairs a b first second = one_kept pairs a b first second
one_info_by (Some name) pairs a b first second = first ∙ sym second

-- headers give one information
one_info_of : (headers : Headers) (a b : Result Pairs Fault) → IsInfoOf headers a → IsInfoOf headers b → a ≡ b
one_info_of headers a b first second =
    one_info_by (first_amiss headers (info_names headers)) (pairs_of headers (info_names headers)) a b first second

one_file : (r : Request) (bucket : ℕ) (u v : UploadCall) → IsFileUpload r bucket u → IsFileUpload r bucket v → u ≡ v
one_file r bucket u v first second =
    first.2
    ∙ ap (λ info. or_bad calls.UploadFile (target.Bucket bucket) (λ f. upload.File f) (file_upload bucket r.length info r.headers)) (one_info_of r.headers first.0 second.0 first.1 second.1)
    ∙ sym second.2

pub one_upload : (t : Target) (r : Request) (u v : UploadCall) → IsUploadTo t r u → IsUploadTo t r v → u ≡ v
one_upload target.Nothing r u v first second = absurd first
one_upload (target.Bucket bucket) r u v first second = one_file r bucket u v first second
one_upload (target.File bucket file) r u v first second = first ∙ sym second
