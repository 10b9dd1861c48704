-- The call that a body is fits the machine, and asks for a range in order: of the calls whose body is an object of
-- JSON two give rules, and none asks for a range to be sent.
use Rattle.std.proofs.Common.{inl, inr, ℕ, List, Option, Ok, Err, sym, subst}
use Rattle.std.specs.Prelude.{Result, IfOk, codes}
use Rattle.serde_json.specs.Data.{Data}
use Rattle.rule_table.specs.declared.call.CallName.{CallName}
use Rattle.rule_table.specs.declared.call.CallName.TheVariants as calls
use Rattle.b2_types.specs.declared.kinds.ApiVersion.{ApiVersion}
use Rattle.b2_types.specs.declared.fault.Fault.{Fault}
use Rattle.b2_types.specs.declared.call.Call.{Call}
use Rattle.b2_types.specs.declared.call.Call.TheVariants as call
use Rattle.b2_types.specs.declared.call.CreateBucket.{CreateBucket}
use Rattle.b2_types.specs.declared.call.UpdateBucket.{UpdateBucket}
use Rattle.sound_steps.specs.FitSteps.{IsFitCall}
use Rattle.machine_laws.specs.Ranges.{AsksInOrder}
use Rattle.json_shape.specs.Fields.{number_within}
use Rattle.field_kinds.specs.Info.{Pairs}
use Rattle.field_kinds.specs.Kinds.{text, flag, bucket_id, bucket_name, bucket_type}
use Rattle.field_kinds.specs.Offered.{idle, is_null, is_no_list, is_no_encryption}
use Rattle.field_kinds.specs.Reader.{needed, optional}
use Rattle.field_kinds.specs.Rules.{default_retention}
use Rattle.key_fields.specs.Keys.{create_key, delete_key, list_keys}
use Rattle.copy_fields.specs.Copies.{copy_file, copy_part}
use Rattle.call_fields.specs.Buckets.{delete_bucket, list_buckets}
use Rattle.call_fields.specs.Files.{get_upload_url, file_call, hide_file, delete_version, authorize_download, update_hold, update_retention}
use Rattle.call_fields.specs.Made.{create_bucket, update_bucket, start_large_file}
use Rattle.call_fields.specs.Listings.{list_parts, finish, list_unfinished, list_names, list_versions}
use Rattle.call_fields.specs.Call.{made, fields, or_bad, IsCall}
use Rattle.request_laws.proofs.Rows.{Makes, start, any_row, known_row}
use Rattle.request_laws.proofs.RulesRead.{FitRules, rules_fit}

-- the call fits, and asks in order
abbrev pub IsWell : Call → Type 0
IsWell c = IsFitCall c × AsksInOrder c

-- ---- the two calls that give rules

abbrev CreateFits : CreateBucket → Type 0
CreateFits c = FitRules c.rules

create_fits : (info : Option Pairs) (d : Data) → Makes CreateFits (create_bucket info d)
create_fits info d =
    any_row (idle (codes "replicationConfiguration") is_null d)
    (any_row (idle (codes "defaultServerSideEncryption") is_no_encryption d)
    (any_row (idle (codes "corsRules") is_no_list d)
    (known_row (rules_fit (codes "lifecycleRules") d)
    (any_row (optional (codes "fileLockEnabled") flag d)
    (any_row (optional (codes "bucketInfo") (λ d. info) d)
    (any_row (needed (codes "bucketType") bucket_type d)
    (any_row (needed (codes "bucketName") bucket_name d)
    (any_row (needed (codes "accountId") text d)
    (start _ (λ account name public given lock rs fit cors encryption replication. fit))))))))))

abbrev UpdateFits : UpdateBucket → Type 0
UpdateFits c = FitRules c.rules

update_fits : (info : Option Pairs) (d : Data) → Makes UpdateFits (update_bucket info d)
update_fits info d =
    any_row (idle (codes "replicationConfiguration") is_null d)
    (any_row (idle (codes "defaultServerSideEncryption") is_no_encryption d)
    (any_row (idle (codes "corsRules") is_no_list d)
    (any_row (optional (codes "ifRevisionIs") (number_within 0 18446744073709551615) d)
    (known_row (rules_fit (codes "lifecycleRules") d)
    (any_row (optional (codes "fileLockEnabled") flag d)
    (any_row (optional (codes "defaultRetention") default_retention d)
    (any_row (optional (codes "bucketInfo") (λ d. info) d)
    (any_row (optional (codes "bucketType") bucket_type d)
    (any_row (needed (codes "bucketId") bucket_id d)
    (any_row (needed (codes "accountId") text d)
    (start _ (λ account bucket public given kept lock rs fit revision cors encryption replication. fit))))))))))))

-- ---- all calls

made_well : {C : Type 0} (name : CallName) (wrap : C → Call) (o : Result C Fault) → IfOk o (λ c. IsWell (wrap c)) → IsWell (or_bad name (made wrap o))
made_well name wrap (Ok c) well = well
made_well name wrap (Err f) well = (tt, tt)

any_made : {C : Type 0} (name : CallName) (wrap : C → Call) (o : Result C Fault) → ((c : C) → IsWell (wrap c)) → IsWell (or_bad name (made wrap o))
any_made name wrap (Ok c) well = well c
any_made name wrap (Err f) well = (tt, tt)

create_well : (o : Result CreateBucket Fault) → IfOk o CreateFits → IfOk o (λ c. IsWell (call.CreateBucket c))
create_well (Ok c) fit = (fit, tt)
create_well (Err f) fit = tt

update_well : (o : Result UpdateBucket Fault) → IfOk o UpdateFits → IfOk o (λ c. IsWell (call.UpdateBucket c))
update_well (Ok c) fit = (fit, tt)
update_well (Err f) fit = tt

fields_well : (name : CallName) (version : ApiVersion) (info : Option Pairs) (d : Data) → IsWell (or_bad name (fields name version info d))
fields_well calls.CreateBucket version info d = made_well _ call.CreateBucket (create_bucket info d) (create_well (create_bucket info d) (create_fits info d).is)
fields_well calls.UpdateBucket version info d = made_well _ call.UpdateBucket (update_bucket info d) (update_well (update_bucket info d) (update_fits info d).is)
fields_well calls.DeleteBucket version info d = any_made _ call.DeleteBucket (delete_bucket d) (λ c. (tt, tt))
fields_well calls.ListBuckets version info d = any_made _ call.ListBuckets (list_buckets d) (λ c. (tt, tt))
fields_well calls.CreateKey version info d = any_made _ call.CreateKey (create_key version d) (λ c. (tt, tt))
fields_well calls.DeleteKey version info d = any_made _ call.DeleteKey (delete_key version d) (λ c. (tt, tt))
fields_well calls.ListKeys version info d = any_made _ call.ListKeys (list_keys version d) (λ c. (tt, tt))
fields_well calls.GetUploadUrl version info d = any_made _ call.GetUploadUrl (get_upload_url d) (λ c. (tt, tt))
fields_well calls.StartLargeFile version info d = any_made _ call.StartLargeFile (start_large_file info d) (λ c. (tt, tt))
fields_well calls.GetUploadPartUrl version info d = any_made _ call.GetUploadPartUrl (file_call d) (λ c. (tt, tt))
fields_well calls.ListParts version info d = any_made _ call.ListParts (list_parts d) (λ c. (tt, tt))
fields_well calls.FinishLargeFile version info d = any_made _ call.FinishLargeFile (finish d) (λ c. (tt, tt))
fields_well calls.CancelLargeFile version info d = any_made _ call.CancelLargeFile (file_call d) (λ c. (tt, tt))
fields_well calls.ListUnfinishedLargeFiles version info d = any_made _ call.ListUnfinishedLargeFiles (list_unfinished d) (λ c. (tt, tt))
fields_well calls.ListFileNames version info d = any_made _ call.ListFileNames (list_names d) (λ c. (tt, tt))
fields_well calls.ListFileVersions version info d = any_made _ call.ListFileVersions (list_versions d) (λ c. (tt, tt))
fields_well calls.GetFileInfo version info d = any_made _ call.GetFileInfo (file_call d) (λ c. (tt, tt))
fields_well calls.HideFile version info d = any_made _ call.HideFile (hide_file d) (λ c. (tt, tt))
fields_well calls.DeleteFileVersion version info d = any_made _ call.DeleteFileVersion (delete_version d) (λ c. (tt, tt))
fields_well calls.GetDownloadAuthorization version info d = any_made _ call.GetDownloadAuthorization (authorize_download d) (λ c. (tt, tt))
fields_well calls.UpdateFileRetention version info d = any_made _ call.UpdateFileRetention (update_retention d) (λ c. (tt, tt))
fields_well calls.UpdateFileLegalHold version info d = any_made _ call.UpdateFileLegalHold (update_hold d) (λ c. (tt, tt))
fields_well calls.CopyFile version info d = any_made _ call.CopyFile (copy_file info d) (λ c. (tt, tt))
fields_well calls.CopyPart version info d = any_made _ call.CopyPart (copy_part d) (λ c. (tt, tt))
fields_well other version info d = (tt, tt)

pub body_well : (name : CallName) (version : ApiVersion) (body : List ℕ) (c : Call) → IsCall name version body c → IsWell c
body_well name version body c (inl (d, reads, (info, given, is))) = subst IsWell (sym is) (fields_well name version info d)
body_well name version body c (inr none) = subst IsWell (sym none.1) (tt, tt)
