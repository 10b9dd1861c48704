use Rattle.std.proofs.Common.{IfOk, sym, subst}
use Rattle.std.specs.Option.{option_copied}
use Rattle.b2_types.specs.declared.call.Call.{Call}
use Rattle.core_decisions.specs.Decided.{IsDecision}
use Rattle.version_core.proofs.quiet.decide_quietly.Goals as goal

pub returns-in-CreateBucket : goal.returns-in-CreateBucket
returns-in-CreateBucket c =
    subst (λ (q : Call). IfOk c.create_bucket.result (IsDecision c.args.core.now c.args.t (option_copied c.args.token) q)) (sym c.in-CreateBucket.is) c.create_bucket.ensures

pub returns-in-UpdateBucket : goal.returns-in-UpdateBucket
returns-in-UpdateBucket c =
    subst (λ (q : Call). IfOk c.update_bucket.result (IsDecision c.args.core.now c.args.t (option_copied c.args.token) q)) (sym c.in-UpdateBucket.is) c.update_bucket.ensures

pub returns-in-DeleteBucket : goal.returns-in-DeleteBucket
returns-in-DeleteBucket c =
    subst (λ (q : Call). IfOk c.delete_bucket.result (IsDecision c.args.core.now c.args.t (option_copied c.args.token) q)) (sym c.in-DeleteBucket.is) c.delete_bucket.ensures

pub returns-in-ListBuckets : goal.returns-in-ListBuckets
returns-in-ListBuckets c =
    subst (λ (q : Call). IfOk c.list_buckets.result (IsDecision c.args.core.now c.args.t (option_copied c.args.token) q)) (sym c.in-ListBuckets.is) c.list_buckets.ensures

pub returns-in-DeleteKey : goal.returns-in-DeleteKey
returns-in-DeleteKey c =
    subst (λ (q : Call). IfOk c.delete_key.result (IsDecision c.args.core.now c.args.t (option_copied c.args.token) q)) (sym c.in-DeleteKey.is) c.delete_key.ensures

pub returns-in-ListKeys : goal.returns-in-ListKeys
returns-in-ListKeys c =
    subst (λ (q : Call). IfOk c.list_keys.result (IsDecision c.args.core.now c.args.t (option_copied c.args.token) q)) (sym c.in-ListKeys.is) c.list_keys.ensures

pub returns-in-StartLargeFile : goal.returns-in-StartLargeFile
returns-in-StartLargeFile c =
    subst (λ (q : Call). IfOk c.start_file.result (IsDecision c.args.core.now c.args.t (option_copied c.args.token) q)) (sym c.in-StartLargeFile.is) c.start_file.ensures

pub returns-in-ListParts : goal.returns-in-ListParts
returns-in-ListParts c =
    subst (λ (q : Call). IfOk c.list_parts.result (IsDecision c.args.core.now c.args.t (option_copied c.args.token) q)) (sym c.in-ListParts.is) c.list_parts.ensures

pub returns-in-FinishLargeFile : goal.returns-in-FinishLargeFile
returns-in-FinishLargeFile c =
    subst (λ (q : Call). IfOk c.finish_file.result (IsDecision c.args.core.now c.args.t (option_copied c.args.token) q)) (sym c.in-FinishLargeFile.is) c.finish_file.ensures

pub returns-in-CancelLargeFile : goal.returns-in-CancelLargeFile
returns-in-CancelLargeFile c =
    subst (λ (q : Call). IfOk c.cancel_file.result (IsDecision c.args.core.now c.args.t (option_copied c.args.token) q)) (sym c.in-CancelLargeFile.is) c.cancel_file.ensures

pub returns-in-ListUnfinishedLargeFiles : goal.returns-in-ListUnfinishedLargeFiles
returns-in-ListUnfinishedLargeFiles c =
    subst (λ (q : Call). IfOk c.list_unfinished_large_files.result (IsDecision c.args.core.now c.args.t (option_copied c.args.token) q)) (sym c.in-ListUnfinishedLargeFiles.is) c.list_unfinished_large_files.ensures

pub returns-in-ListFileNames : goal.returns-in-ListFileNames
returns-in-ListFileNames c =
    subst (λ (q : Call). IfOk c.list_file_names.result (IsDecision c.args.core.now c.args.t (option_copied c.args.token) q)) (sym c.in-ListFileNames.is) c.list_file_names.ensures

pub returns-in-ListFileVersions : goal.returns-in-ListFileVersions
returns-in-ListFileVersions c =
    subst (λ (q : Call). IfOk c.list_file_versions.result (IsDecision c.args.core.now c.args.t (option_copied c.args.token) q)) (sym c.in-ListFileVersions.is) c.list_file_versions.ensures

pub returns-in-GetFileInfo : goal.returns-in-GetFileInfo
returns-in-GetFileInfo c =
    subst (λ (q : Call). IfOk c.file_info.result (IsDecision c.args.core.now c.args.t (option_copied c.args.token) q)) (sym c.in-GetFileInfo.is) c.file_info.ensures

pub returns-in-HideFile : goal.returns-in-HideFile
returns-in-HideFile c =
    subst (λ (q : Call). IfOk c.hide_file.result (IsDecision c.args.core.now c.args.t (option_copied c.args.token) q)) (sym c.in-HideFile.is) c.hide_file.ensures

pub returns-in-DeleteFileVersion : goal.returns-in-DeleteFileVersion
returns-in-DeleteFileVersion c =
    subst (λ (q : Call). IfOk c.delete_version.result (IsDecision c.args.core.now c.args.t (option_copied c.args.token) q)) (sym c.in-DeleteFileVersion.is) c.delete_version.ensures

pub returns-in-DownloadFileById : goal.returns-in-DownloadFileById
returns-in-DownloadFileById c =
    subst (λ (q : Call). IfOk c.download_by_id.result (IsDecision c.args.core.now c.args.t (option_copied c.args.token) q)) (sym c.in-DownloadFileById.is) c.download_by_id.ensures

pub returns-in-DownloadFileByName : goal.returns-in-DownloadFileByName
returns-in-DownloadFileByName c =
    subst (λ (q : Call). IfOk c.download_by_name.result (IsDecision c.args.core.now c.args.t (option_copied c.args.token) q)) (sym c.in-DownloadFileByName.is) c.download_by_name.ensures

pub returns-in-UpdateFileRetention : goal.returns-in-UpdateFileRetention
returns-in-UpdateFileRetention c =
    subst (λ (q : Call). IfOk c.update_retention.result (IsDecision c.args.core.now c.args.t (option_copied c.args.token) q)) (sym c.in-UpdateFileRetention.is) c.update_retention.ensures

pub returns-in-UpdateFileLegalHold : goal.returns-in-UpdateFileLegalHold
returns-in-UpdateFileLegalHold c =
    subst (λ (q : Call). IfOk c.update_hold.result (IsDecision c.args.core.now c.args.t (option_copied c.args.token) q)) (sym c.in-UpdateFileLegalHold.is) c.update_hold.ensures

pub returns-in-Bad : goal.returns-in-Bad
returns-in-Bad c =
    subst (λ (q : Call). IfOk c.bad_call.result (IsDecision c.args.core.now c.args.t (option_copied c.args.token) q)) (sym c.in-Bad.is) c.bad_call.ensures
