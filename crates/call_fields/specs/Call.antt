-- Which call a body is: the tables of all calls whose body is an object of JSON.
use Rattle.std.specs.Prelude.{◌≡◌, ◌⊎◌, ℕ, List, Option, None, Result, Ok, Err}
use Rattle.serde_json.specs.Data.{Data}
use Rattle.json_shape.specs.Object.{ReadsObject}
use Rattle.rule_table.specs.declared.call.CallName.{CallName}
use Rattle.rule_table.specs.declared.call.CallName.TheVariants as calls
use Rattle.rule_table.specs.declared.fault.FaultKind.TheVariants as faults
use Rattle.b2_types.specs.declared.kinds.ApiVersion.{ApiVersion}
use Rattle.b2_types.specs.declared.fault.Fault.{Fault}
use Rattle.b2_types.specs.declared.fault.Target.TheVariants as target
use Rattle.b2_types.specs.declared.call.Call.{Call}
use Rattle.b2_types.specs.declared.call.Call.TheVariants as call
use Rattle.b2_types.specs.Fault.{plain}
use Rattle.field_kinds.specs.Reader.{Reader}
use Rattle.call_fields.specs.Buckets.{delete_bucket, list_buckets}
use Rattle.call_fields.specs.Files.{get_upload_url, file_call, hide_file, delete_version, authorize_download, update_hold, update_retention}
use Rattle.key_fields.specs.Keys.{create_key, delete_key, list_keys}
use Rattle.copy_fields.specs.Copies.{copy_file, copy_part}
use Rattle.field_kinds.specs.Info.{Pairs}
use Rattle.call_fields.specs.Information.{IsInfoOf}
use Rattle.call_fields.specs.Made.{create_bucket, update_bucket, start_large_file}
use Rattle.call_fields.specs.Listings.{list_parts, finish, list_unfinished, list_names, list_versions}

abbrev pub made : {C : Type 0} → (C → Call) → Result C Fault → Result Call Fault
made wrap (Ok c) = Ok (wrap c)
made wrap (Err f) = Err f

-- the call of this name that an object is, with the information that it gives; a call that has no table here
-- is none
abbrev pub fields : CallName → ApiVersion → Option Pairs → Reader Call
fields calls.CreateBucket version info d = made call.CreateBucket (create_bucket info d)
fields calls.UpdateBucket version info d = made call.UpdateBucket (update_bucket info d)
fields calls.DeleteBucket version info d = made call.DeleteBucket (delete_bucket d)
fields calls.ListBuckets version info d = made call.ListBuckets (list_buckets d)
fields calls.CreateKey version info d = made call.CreateKey (create_key version d)
fields calls.DeleteKey version info d = made call.DeleteKey (delete_key version d)
fields calls.ListKeys version info d = made call.ListKeys (list_keys version d)
fields calls.GetUploadUrl version info d = made call.GetUploadUrl (get_upload_url d)
fields calls.StartLargeFile version info d = made call.StartLargeFile (start_large_file info d)
fields calls.GetUploadPartUrl version info d = made call.GetUploadPartUrl (file_call d)
fields calls.ListParts version info d = made call.ListParts (list_parts d)
fields calls.FinishLargeFile version info d = made call.FinishLargeFile (finish d)
fields calls.CancelLargeFile version info d = made call.CancelLargeFile (file_call d)
fields calls.ListUnfinishedLargeFiles version info d = made call.ListUnfinishedLargeFiles (list_unfinished d)
fields calls.ListFileNames version info d = made call.ListFileNames (list_names d)
fields calls.ListFileVersions version info d = made call.ListFileVersions (list_versions d)
fields calls.GetFileInfo version info d = made call.GetFileInfo (file_call d)
fields calls.HideFile version info d = made call.HideFile (hide_file d)
fields calls.DeleteFileVersion version info d = made call.DeleteFileVersion (delete_version d)
fields calls.GetDownloadAuthorization version info d = made call.GetDownloadAuthorization (authorize_download d)
fields calls.UpdateFileRetention version info d = made call.UpdateFileRetention (update_retention d)
fields calls.UpdateFileLegalHold version info d = made call.UpdateFileLegalHold (update_hold d)
fields calls.CopyFile version info d = made call.CopyFile (copy_file info d)
fields calls.CopyPart version info d = made call.CopyPart (copy_part d)
fields other version info d = Err (plain faults.NoCall)

-- the call, or one that is bad with this fault
abbrev pub or_bad : CallName → Result Call Fault → Call
or_bad name (Ok c) = c
or_bad name (Err f) = call.Bad (record { name = name; target = target.Nothing; bucket = None; fault = f })

-- The body is this call: it is an object, and the call is what its fields give; or it is none, and the call
-- is bad for that.
abbrev pub IsCallOf : CallName → ApiVersion → Data → Call → Type 0
IsCallOf name version d c = (info : Option Pairs) × IsInfoOf name d info × (c ≡ or_bad name (fields name version info d))

abbrev pub IsCall : CallName → ApiVersion → List ℕ → Call → Type 0
IsCall name version body c =
    ((d : Data) × ReadsObject body d × IsCallOf name version d c)
    ⊎ (((d : Data) → ReadsObject body d → ⊥) × (c ≡ or_bad name (Err (plain faults.NotJson))))
