-- What each call needs and names: the kinds of tokens, the capabilities, and what is judged against a
-- key's bucket and prefix (the B2 reference, "Application keys").
use Rattle.std.specs.List.{list_any}
use Rattle.std.specs.Prelude.{ℕ, Bool, false, ◌==◌, List, [], ◌∷◌, ◌++◌, if◌then◌else◌, unwrap_or}
use Rattle.std.specs.Option.{is_some}
use Rattle.rule_table.specs.declared.cap.Cap.{Cap}
use Rattle.rule_table.specs.declared.cap.Cap.TheVariants as cap
use Rattle.rule_table.specs.declared.call.CallName.{CallName}
use Rattle.rule_table.specs.declared.call.CallName.TheVariants as calls
use Rattle.b2_types.specs.declared.kinds.TokenKind.{TokenKind}
use Rattle.b2_types.specs.declared.kinds.TokenKind.TheVariants.{Account, UploadUrl, PartUrl, Download}
use Rattle.b2_types.specs.declared.need_table.Thing.{Thing}
use Rattle.b2_types.specs.declared.need_table.Thing.TheVariants as thing
use Rattle.b2_types.specs.declared.call.Call.{Call}
use Rattle.b2_types.specs.declared.call.Call.TheVariants as call
use Rattle.b2_types.specs.declared.upload.UploadCall.{UploadCall}
use Rattle.b2_types.specs.declared.upload.UploadCall.TheVariants as upload

pub record Need : Type 0 where
  pub tokens : List TokenKind
  pub caps : List Cap
  pub things : List Thing

-- a call with the account's token
abbrev pub by_account : List Cap → List Thing → Need
by_account caps things = record { tokens = Account ∷ []; caps = caps; things = things }

abbrev pub need : CallName → Need
need calls.AuthorizeAccount = record { tokens = []; caps = []; things = [] }
need calls.CreateBucket = by_account (cap.WriteBuckets ∷ []) (thing.Account ∷ [])
need calls.UpdateBucket = by_account (cap.WriteBuckets ∷ []) (thing.Account ∷ thing.Bucket ∷ [])
need calls.DeleteBucket = by_account (cap.DeleteBuckets ∷ []) (thing.Account ∷ thing.Bucket ∷ [])
need calls.ListBuckets = by_account (cap.ListBuckets ∷ []) (thing.Account ∷ thing.SomeBucket ∷ [])
need calls.CreateKey = by_account (cap.WriteKeys ∷ []) (thing.Account ∷ thing.SomeBucket ∷ [])
need calls.DeleteKey = by_account (cap.DeleteKeys ∷ []) []
need calls.ListKeys = by_account (cap.ListKeys ∷ []) (thing.Account ∷ [])
need calls.GetUploadUrl = by_account (cap.WriteFiles ∷ []) (thing.Bucket ∷ [])
need calls.UploadFile = record { tokens = UploadUrl ∷ []; caps = cap.WriteFiles ∷ []; things = thing.Bucket ∷ thing.Name ∷ [] }
need calls.StartLargeFile = by_account (cap.WriteFiles ∷ []) (thing.Bucket ∷ thing.Name ∷ [])
need calls.GetUploadPartUrl = by_account (cap.WriteFiles ∷ []) (thing.File ∷ [])
need calls.UploadPart = record { tokens = PartUrl ∷ []; caps = cap.WriteFiles ∷ []; things = thing.File ∷ [] }
need calls.ListParts = by_account (cap.WriteFiles ∷ []) (thing.File ∷ [])
need calls.FinishLargeFile = by_account (cap.WriteFiles ∷ []) (thing.File ∷ [])
need calls.CancelLargeFile = by_account (cap.WriteFiles ∷ []) (thing.File ∷ [])
need calls.ListUnfinishedLargeFiles = by_account (cap.ListFiles ∷ []) (thing.Bucket ∷ thing.Prefix ∷ [])
need calls.ListFileNames = by_account (cap.ListFiles ∷ []) (thing.Bucket ∷ thing.Prefix ∷ [])
need calls.ListFileVersions = by_account (cap.ListFiles ∷ []) (thing.Bucket ∷ thing.Prefix ∷ [])
need calls.GetFileInfo = by_account (cap.ReadFiles ∷ []) (thing.File ∷ [])
need calls.HideFile = by_account (cap.WriteFiles ∷ []) (thing.Bucket ∷ thing.Name ∷ [])
need calls.DeleteFileVersion = by_account (cap.DeleteFiles ∷ []) (thing.File ∷ [])
need calls.GetDownloadAuthorization = by_account (cap.ShareFiles ∷ []) (thing.Bucket ∷ thing.Prefix ∷ [])
need calls.DownloadFileById = by_account (cap.ReadFiles ∷ []) (thing.File ∷ [])
need calls.DownloadFileByName = record { tokens = Account ∷ Download ∷ []; caps = cap.ReadFiles ∷ []; things = thing.PathBucket ∷ thing.Name ∷ [] }
need calls.UpdateFileRetention = by_account (cap.WriteFileRetentions ∷ []) (thing.File ∷ [])
need calls.UpdateFileLegalHold = by_account (cap.WriteFileLegalHolds ∷ []) (thing.File ∷ [])
need calls.CopyFile = by_account (cap.WriteFiles ∷ cap.ReadFiles ∷ []) (thing.Source ∷ thing.Bucket ∷ thing.Name ∷ [])
need calls.CopyPart = by_account (cap.WriteFiles ∷ cap.ReadFiles ∷ []) (thing.Source ∷ thing.File ∷ [])

abbrev pub name_of : Call → CallName
name_of (call.AuthorizeAccount c) = calls.AuthorizeAccount
name_of (call.CreateBucket c) = calls.CreateBucket
name_of (call.UpdateBucket c) = calls.UpdateBucket
name_of (call.DeleteBucket c) = calls.DeleteBucket
name_of (call.ListBuckets c) = calls.ListBuckets
name_of (call.CreateKey c) = calls.CreateKey
name_of (call.DeleteKey c) = calls.DeleteKey
name_of (call.ListKeys c) = calls.ListKeys
name_of (call.GetUploadUrl c) = calls.GetUploadUrl
name_of (call.StartLargeFile c) = calls.StartLargeFile
name_of (call.GetUploadPartUrl c) = calls.GetUploadPartUrl
name_of (call.ListParts c) = calls.ListParts
name_of (call.FinishLargeFile c) = calls.FinishLargeFile
name_of (call.CancelLargeFile c) = calls.CancelLargeFile
name_of (call.ListUnfinishedLargeFiles c) = calls.ListUnfinishedLargeFiles
name_of (call.ListFileNames c) = calls.ListFileNames
name_of (call.ListFileVersions c) = calls.ListFileVersions
name_of (call.GetFileInfo c) = calls.GetFileInfo
name_of (call.HideFile c) = calls.HideFile
name_of (call.DeleteFileVersion c) = calls.DeleteFileVersion
name_of (call.GetDownloadAuthorization c) = calls.GetDownloadAuthorization
name_of (call.DownloadFileById c) = calls.DownloadFileById
name_of (call.DownloadFileByName c) = calls.DownloadFileByName
name_of (call.UpdateFileRetention c) = calls.UpdateFileRetention
name_of (call.UpdateFileLegalHold c) = calls.UpdateFileLegalHold
name_of (call.CopyFile c) = calls.CopyFile
name_of (call.CopyPart c) = calls.CopyPart
name_of (call.Bad c) = c.name

abbrev pub upload_name : UploadCall → CallName
upload_name (upload.File u) = calls.UploadFile
upload_name (upload.Part u) = calls.UploadPart
upload_name (upload.Bad c) = c.name

abbrev pub cap_if : Bool → Cap → List Cap
cap_if asked c = if asked then c ∷ [] else []

-- the capabilities that a retention or a hold wants besides, where it is set
abbrev pub lock_caps : Bool → Bool → List Cap
lock_caps retained held = cap_if retained cap.WriteFileRetentions ++ cap_if held cap.WriteFileLegalHolds

-- what else the fields of a call want
abbrev pub more_caps : Call → List Cap
more_caps (call.UpdateBucket c) = cap_if (is_some c.default) cap.WriteBucketRetentions
more_caps (call.StartLargeFile c) = lock_caps (is_some c.retention) (unwrap_or c.hold false)
more_caps (call.CopyFile c) = lock_caps (is_some c.retention) (unwrap_or c.hold false)
more_caps other = []

abbrev pub upload_more_caps : UploadCall → List Cap
upload_more_caps (upload.File u) = lock_caps (is_some u.retention) u.hold
upload_more_caps (upload.Part u) = []
upload_more_caps (upload.Bad c) = []

abbrev pub needed_caps : Call → List Cap
needed_caps c = (need (name_of c)).caps ++ more_caps c

abbrev pub upload_caps : UploadCall → List Cap
upload_caps u = (need (upload_name u)).caps ++ upload_more_caps u

-- ---- the column of what is named

abbrev pub thing_place : Thing → ℕ
thing_place thing.Account = 0
thing_place thing.Bucket = 1
thing_place thing.SomeBucket = 2
thing_place thing.PathBucket = 3
thing_place thing.File = 4
thing_place thing.Source = 5
thing_place thing.Name = 6
thing_place thing.Prefix = 7

-- the row of this name has this thing
abbrev pub names : Thing → CallName → Bool
names t name = list_any (λ u. thing_place u == thing_place t) (need name).things
