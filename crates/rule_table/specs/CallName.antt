-- The calls, in the order of their table.
use Rattle.std.proofs.Common.{◌≡◌, ℕ, List, [], ◌∷◌, Some, slice_get, codes, refl, arith}
use Rattle.rule_table.specs.Order.{found_at}
use Rattle.rule_table.specs.declared.call.CallName.{CallName}
use Rattle.rule_table.specs.declared.call.CallName.TheVariants.{AuthorizeAccount, CreateBucket, UpdateBucket, DeleteBucket, ListBuckets, CreateKey, DeleteKey, ListKeys, GetUploadUrl, UploadFile, StartLargeFile, GetUploadPartUrl, UploadPart, ListParts, FinishLargeFile, CancelLargeFile, ListUnfinishedLargeFiles, ListFileNames, ListFileVersions, GetFileInfo, HideFile, DeleteFileVersion, GetDownloadAuthorization, DownloadFileById, DownloadFileByName, UpdateFileRetention, UpdateFileLegalHold, CopyFile, CopyPart}

-- the values, by their places
abbrev pub call_order : List CallName
call_order = AuthorizeAccount ∷ CreateBucket ∷ UpdateBucket ∷ DeleteBucket ∷ ListBuckets ∷ CreateKey ∷ DeleteKey ∷ ListKeys ∷ GetUploadUrl ∷ UploadFile ∷ StartLargeFile ∷ GetUploadPartUrl ∷ UploadPart ∷ ListParts ∷ FinishLargeFile ∷ CancelLargeFile ∷ ListUnfinishedLargeFiles ∷ ListFileNames ∷ ListFileVersions ∷ GetFileInfo ∷ HideFile ∷ DeleteFileVersion ∷ GetDownloadAuthorization ∷ DownloadFileById ∷ DownloadFileByName ∷ UpdateFileRetention ∷ UpdateFileLegalHold ∷ CopyFile ∷ CopyPart ∷ []

-- their names, in the same order
abbrev pub call_names : List (List ℕ)
call_names = codes "b2_authorize_account" ∷ codes "b2_create_bucket" ∷ codes "b2_update_bucket" ∷ codes "b2_delete_bucket" ∷ codes "b2_list_buckets" ∷ codes "b2_create_key" ∷ codes "b2_delete_key" ∷ codes "b2_list_keys" ∷ codes "b2_get_upload_url" ∷ codes "b2_upload_file" ∷ codes "b2_start_large_file" ∷ codes "b2_get_upload_part_url" ∷ codes "b2_upload_part" ∷ codes "b2_list_parts" ∷ codes "b2_finish_large_file" ∷ codes "b2_cancel_large_file" ∷ codes "b2_list_unfinished_large_files" ∷ codes "b2_list_file_names" ∷ codes "b2_list_file_versions" ∷ codes "b2_get_file_info" ∷ codes "b2_hide_file" ∷ codes "b2_delete_file_version" ∷ codes "b2_get_download_authorization" ∷ codes "b2_download_file_by_id" ∷ codes "b2_download_file_by_name" ∷ codes "b2_update_file_retention" ∷ codes "b2_update_file_legal_hold" ∷ codes "b2_copy_file" ∷ codes "b2_copy_part" ∷ []

abbrev pub call_place : CallName → ℕ
call_place AuthorizeAccount = 0
call_place CreateBucket = 1
call_place UpdateBucket = 2
call_place DeleteBucket = 3
call_place ListBuckets = 4
call_place CreateKey = 5
call_place DeleteKey = 6
call_place ListKeys = 7
call_place GetUploadUrl = 8
call_place UploadFile = 9
call_place StartLargeFile = 10
call_place GetUploadPartUrl = 11
call_place UploadPart = 12
call_place ListParts = 13
call_place FinishLargeFile = 14
call_place CancelLargeFile = 15
call_place ListUnfinishedLargeFiles = 16
call_place ListFileNames = 17
call_place ListFileVersions = 18
call_place GetFileInfo = 19
call_place HideFile = 20
call_place DeleteFileVersion = 21
call_place GetDownloadAuthorization = 22
call_place DownloadFileById = 23
call_place DownloadFileByName = 24
call_place UpdateFileRetention = 25
call_place UpdateFileLegalHold = 26
call_place CopyFile = 27
call_place CopyPart = 28

pub call_there : (e : CallName) → slice_get call_order (call_place e) ≡ Some e
call_there AuthorizeAccount = refl
call_there CreateBucket = refl
call_there UpdateBucket = refl
call_there DeleteBucket = refl
call_there ListBuckets = refl
call_there CreateKey = refl
call_there DeleteKey = refl
call_there ListKeys = refl
call_there GetUploadUrl = refl
call_there UploadFile = refl
call_there StartLargeFile = refl
call_there GetUploadPartUrl = refl
call_there UploadPart = refl
call_there ListParts = refl
call_there FinishLargeFile = refl
call_there CancelLargeFile = refl
call_there ListUnfinishedLargeFiles = refl
call_there ListFileNames = refl
call_there ListFileVersions = refl
call_there GetFileInfo = refl
call_there HideFile = refl
call_there DeleteFileVersion = refl
call_there GetDownloadAuthorization = refl
call_there DownloadFileById = refl
call_there DownloadFileByName = refl
call_there UpdateFileRetention = refl
call_there UpdateFileLegalHold = refl
call_there CopyFile = refl
call_there CopyPart = refl

pub call_here : (i : ℕ) (e : CallName) → slice_get call_order i ≡ Some e → call_place e ≡ i
call_here i e found = omega (arith, found_at call_place 0 29 call_order refl i e found)
