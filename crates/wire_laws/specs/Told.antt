-- What is left of an answer in its body: the same answer, where what the body does not tell has one plain form.
use Rattle.std.specs.Prelude.{◌≡◌, ◌<◌, ◌^◌, ℕ, List, [], ◌∷◌, length, take, map, All, Option, Some, option_map}
use Rattle.hex.specs.Hex.{IsBytes}
use Rattle.name_rules.specs.InfoPairs.{IsAscending}
use Rattle.rule_table.specs.declared.cap_set.CapSet.{CapSet}
use Rattle.b2_types.specs.declared.fault.Detail.{Detail}
use Rattle.b2_types.specs.declared.fault.Detail.TheVariants as detail
use Rattle.b2_types.specs.declared.fault.Fault.{Fault}
use Rattle.b2_types.specs.Fault.{HasItsDetail}
use Rattle.b2_types.specs.declared.kinds.ApiVersion.{ApiVersion}
use Rattle.b2_types.specs.declared.kinds.ApiVersion.TheVariants as version
use Rattle.b2_types.specs.declared.kinds.Mark.{Mark}
use Rattle.b2_types.specs.declared.kinds.Mark.TheVariants as mark
use Rattle.b2_types.specs.declared.record.VersionId.{VersionId}
use Rattle.b2_types.specs.declared.shown.NextRow.{NextRow}
use Rattle.b2_types.specs.declared.shown.RowKind.{RowKind}
use Rattle.b2_types.specs.declared.shown.RowKind.TheVariants as row
use Rattle.b2_types.specs.declared.shown.ShownAccount.{ShownAccount}
use Rattle.b2_types.specs.declared.shown.ShownBucket.{ShownBucket}
use Rattle.b2_types.specs.declared.shown.ShownDigest.{ShownDigest}
use Rattle.b2_types.specs.declared.shown.ShownFile.{ShownFile}
use Rattle.b2_types.specs.declared.shown.ShownKey.{ShownKey}
use Rattle.b2_types.specs.declared.shown.ShownLimit.{ShownLimit}
use Rattle.b2_types.specs.declared.shown.ShownName.{ShownName}
use Rattle.b2_types.specs.declared.shown.ShownPart.{ShownPart}
use Rattle.b2_types.specs.declared.shown.Shown.{Shown}
use Rattle.b2_types.specs.declared.shown.Shown.TheVariants as shown

-- a large file or a marker has no digest of its own, and the body tells them not apart
abbrev pub told_by : List ℕ → Mark → ShownDigest
told_by digest mark.Verified = record { mark = mark.Verified; digest = digest }
told_by digest mark.Unverified = record { mark = mark.Unverified; digest = digest }
told_by digest mark.Large = record { mark = mark.Large; digest = [] }
told_by digest mark.Marker = record { mark = mark.Large; digest = [] }

abbrev pub told_digest : ShownDigest → ShownDigest
told_digest d = told_by d.digest d.mark

-- a folder has no number
abbrev pub num_by : ℕ → RowKind → ℕ
num_by num row.Folder = 0
num_by num other = num

abbrev pub told_file : ShownFile → ShownFile
told_file f = record f { digest = option_map told_digest f.digest; num = num_by f.num f.action }

abbrev pub told_part : ShownPart → ShownPart
told_part p = record p { digest = told_digest p.digest }

-- version 3 tells of the buckets of a key the first, and that there are more
abbrev pub first_and_more : List ℕ → List ℕ
first_and_more [] = []
first_and_more (bucket ∷ []) = bucket ∷ []
first_and_more (bucket ∷ other ∷ more) = bucket ∷ 0 ∷ []

abbrev pub told_buckets : ApiVersion → List ℕ → List ℕ
told_buckets version.V3 buckets = first_and_more buckets
told_buckets version.V4 buckets = buckets

abbrev pub told_key : ShownKey → ShownKey
told_key k = record k { buckets = told_buckets k.version k.buckets }

-- of the buckets of an account's token version 3 tells the first alone
abbrev pub told_limits : ApiVersion → List ShownLimit → List ShownLimit
told_limits version.V3 limits = take 1 limits
told_limits version.V4 limits = limits

abbrev pub told_account : ShownAccount → ShownAccount
told_account a = record a { buckets = told_limits a.version a.buckets }

abbrev pub told : Shown → Shown
told (shown.Account a) = shown.Account (told_account a)
told (shown.NewKey k) = shown.NewKey (record k { key = told_key k.key })
told (shown.Key k) = shown.Key (told_key k)
told (shown.Keys ks next) = shown.Keys (map told_key ks) next
told (shown.File f) = shown.File (told_file f)
told (shown.Part p) = shown.Part (told_part p)
told (shown.Parts ps next) = shown.Parts (map told_part ps) next
told (shown.FileNames fs next) = shown.FileNames (map told_file fs) next
told (shown.FileVersions fs next) = shown.FileVersions (map told_file fs) next
told (shown.Unfinished fs next) = shown.Unfinished (map told_file fs) next
told other = other

-- ---- what the types promise of each

abbrev pub IsDigest : ShownDigest → Type 0
IsDigest d = (length d.digest ≡ 20) × IsBytes d.digest

abbrev pub AreBuckets : List ℕ → Type 0
AreBuckets buckets = All (λ bucket. bucket < 2 ^ 32) buckets

-- a flag for each capability
abbrev pub AreCaps : CapSet → Type 0
AreCaps caps = length caps.flags ≡ 26

abbrev pub IsId : VersionId → Type 0
IsId id = (id.bucket < 2 ^ 32) × (id.num < 2 ^ 53)

abbrev pub IsName : ShownName → Type 0
IsName v = (v.bucket < 2 ^ 32) × (v.num < 2 ^ 53)

pub record IsFile (f : ShownFile) : Type 0 where
  pub bucket : f.bucket < 2 ^ 32
  pub num : f.num < 2 ^ 53
  pub digest : (d : ShownDigest) → f.digest ≡ Some d → IsDigest d
  pub info : IsAscending f.info

pub record IsPart (p : ShownPart) : Type 0 where
  pub bucket : p.bucket < 2 ^ 32
  pub file : p.file < 2 ^ 53
  pub digest : IsDigest p.digest

pub record IsKey (k : ShownKey) : Type 0 where
  pub num : k.num < 2 ^ 32
  pub caps : AreCaps k.caps
  pub buckets : AreBuckets k.buckets

pub record IsAccount (a : ShownAccount) : Type 0 where
  pub caps : AreCaps a.caps
  pub buckets : All (λ limit. limit.bucket < 2 ^ 32) a.buckets

pub record IsBucket (b : ShownBucket) : Type 0 where
  pub num : b.num < 2 ^ 32
  pub info : IsAscending b.info

-- the next, where there is one
abbrev pub IsNext : Option VersionId → Type 0
IsNext next = (id : VersionId) → next ≡ Some id → IsId id

abbrev pub IsNextRow : Option NextRow → Type 0
IsNextRow next = (row : NextRow) → next ≡ Some row → IsNext row.version

abbrev pub IsShown : Shown → Type 0
IsShown (shown.Account a) = IsAccount a
IsShown (shown.Bucket b) = IsBucket b
IsShown (shown.Buckets bs) = All IsBucket bs
IsShown (shown.NewKey k) = IsKey k.key
IsShown (shown.Key k) = IsKey k
IsShown (shown.Keys ks next) = All IsKey ks
IsShown (shown.UploadUrl u) = u.bucket < 2 ^ 32
IsShown (shown.PartUrl u) = IsId u.file
IsShown (shown.File f) = IsFile f
IsShown (shown.Part p) = IsPart p
IsShown (shown.Parts ps next) = All IsPart ps
IsShown (shown.Cancelled c) = IsName c.file
IsShown (shown.FileNames fs next) = All IsFile fs
IsShown (shown.FileVersions fs next) = All IsFile fs × IsNextRow next
IsShown (shown.Unfinished fs next) = All IsFile fs × IsNext next
IsShown (shown.Deleted v) = IsName v
IsShown (shown.DownloadToken d) = d.bucket < 2 ^ 32
IsShown (shown.Retention v retention) = IsName v
IsShown (shown.Hold v hold) = IsName v

-- a number of 64 bits, where the fault tells one
abbrev pub IsDetail : Detail → Type 0
IsDetail detail.Nothing = Unit {0}
IsDetail (detail.Word word) = Unit {0}
IsDetail (detail.Number number) = number < 2 ^ 64

-- a refusal that tells what the table says that its kind tells
abbrev pub IsRefusal : Fault → Type 0
IsRefusal f = HasItsDetail f × IsDetail f.detail
