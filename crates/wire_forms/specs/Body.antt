-- The body of the reply to an answer, as JSON (the B2 reference, the responses of the calls). JSON gives the
-- fields of an object in the order of their keys' bytes.
use Rattle.std.specs.Prelude.{ℕ, Bool, true, false, List, [], ◌∷◌, ◌++◌, Option, Some, None, if◌then◌else◌, length, map, fold, filter, option_and_then, codes, slice_get, slice_index_or, ◌==◌, nat_lt}
use Rattle.hex.specs.Hex.{encode_lower}
use Rattle.serde_json.specs.View.{items_of}
use Rattle.serde_json.specs.Data.{Data, null, boolean, string, number, unsigned, array, object, no_members, put}
use Rattle.b2_base.specs.FileId.{file_id}
use Rattle.rule_table.specs.declared.cap.Cap.{Cap}
use Rattle.rule_table.specs.declared.cap_set.CapSet.{CapSet}
use Rattle.rule_table.specs.Cap.{cap_order, cap_names, cap_place}
use Rattle.rule_table.specs.CapSet.{has}
use Rattle.b2_types.specs.declared.bucket.DefaultRetention.{DefaultRetention}
use Rattle.b2_types.specs.declared.bucket.Rule.{Rule}
use Rattle.b2_types.specs.declared.fault.Fault.{Fault}
use Rattle.b2_types.specs.declared.kinds.ApiVersion.{ApiVersion}
use Rattle.b2_types.specs.declared.kinds.ApiVersion.TheVariants as version
use Rattle.b2_types.specs.declared.kinds.Mark.{Mark}
use Rattle.b2_types.specs.declared.kinds.Mark.TheVariants as mark
use Rattle.b2_types.specs.declared.kinds.Mode.{Mode}
use Rattle.b2_types.specs.declared.kinds.Mode.TheVariants as mode
use Rattle.b2_types.specs.declared.kinds.Period.{Period}
use Rattle.b2_types.specs.declared.kinds.Period.TheVariants as period
use Rattle.b2_types.specs.declared.kinds.Retention.{Retention}
use Rattle.b2_types.specs.declared.record.VersionId.{VersionId}
use Rattle.b2_types.specs.declared.shown.RowKind.{RowKind}
use Rattle.b2_types.specs.declared.shown.RowKind.TheVariants as row
use Rattle.b2_types.specs.declared.shown.ShownAccount.{ShownAccount}
use Rattle.b2_types.specs.declared.shown.ShownBucket.{ShownBucket}
use Rattle.b2_types.specs.declared.shown.ShownDigest.{ShownDigest}
use Rattle.b2_types.specs.declared.shown.ShownFile.{ShownFile}
use Rattle.b2_types.specs.declared.shown.ShownKey.{ShownKey}
use Rattle.b2_types.specs.declared.shown.ShownLock.{ShownLock}
use Rattle.b2_types.specs.declared.shown.ShownName.{ShownName}
use Rattle.b2_types.specs.declared.shown.ShownPart.{ShownPart}
use Rattle.b2_types.specs.declared.shown.ShownLimit.{ShownLimit}
use Rattle.b2_types.specs.declared.shown.Shown.{Shown}
use Rattle.b2_types.specs.declared.shown.Shown.TheVariants as shown
use Rattle.b2_base.specs.BucketId.{bucket_id}
use Rattle.b2_types.specs.KeyId.{key_id}
use Rattle.b2_types.specs.FaultTable.{fault_entry}
use Rattle.b2_types.specs.Fault.{message}

-- an object of these fields
abbrev pub fields : List (List ℕ × Data) → Data
fields pairs = object (fold (λ members pair. put pair.0 pair.1 members) no_members pairs)

abbrev pub amount : ℕ → Data
amount n = number (unsigned n)

abbrev pub or_null : {X : Type 0} → (X → Data) → Option X → Data
or_null json None = null
or_null json (Some x) = json x

-- an empty text is null
abbrev pub unless_empty : List ℕ → Data
unless_empty text = if length text == 0 then null else string text

abbrev pub list_of : {X : Type 0} → (X → Data) → List X → Data
list_of json xs = array (items_of (map json xs))

abbrev pub no_items : Data
no_items = array (items_of [])

-- pairs of information
abbrev pub info_json : List (List ℕ × List ℕ) → Data
info_json info = fields (map (λ pair. (pair.0, string pair.1)) info)

-- a value that not every key may read: whether this one may, and the value
abbrev pub readable : {X : Type 0} → (X → Data) → Option X → Data
readable json None = fields ((codes "isClientAuthorizedToRead", boolean false) ∷ (codes "value", null) ∷ [])
readable json (Some x) = fields ((codes "isClientAuthorizedToRead", boolean true) ∷ (codes "value", json x) ∷ [])

-- the names of capabilities, in the order of their table
abbrev pub cap_name : Cap → List ℕ
cap_name c = slice_index_or cap_names (cap_place c) []

abbrev pub caps_json : CapSet → Data
caps_json caps = list_of (λ c. string (cap_name c)) (filter (has caps) cap_order)

-- ---- accounts and keys

-- a list, or null where it is empty
abbrev pub list_or_null : {X : Type 0} → (X → Data) → List X → Data
list_or_null json xs = if length xs == 0 then null else list_of json xs

abbrev pub bucket_id_json : ℕ → Data
bucket_id_json bucket = string (bucket_id bucket)

-- a bucket that a key is limited to
abbrev pub limit_json : ShownLimit → Data
limit_json l = fields ((codes "id", bucket_id_json l.bucket) ∷ (codes "name", or_null string l.name) ∷ [])

-- the buckets that an account's token is limited to: one by its id and name, in version 4 all
abbrev pub limits_json : ApiVersion → List ShownLimit → List (List ℕ × Data)
limits_json version.V3 limits =
    (codes "bucketId", or_null (λ l. bucket_id_json l.bucket) (slice_get limits 0))
    ∷ (codes "bucketName", or_null string (option_and_then (λ l. l.name) (slice_get limits 0))) ∷ []
limits_json version.V4 limits = (codes "buckets", list_or_null limit_json limits) ∷ []

abbrev pub storage_json : ShownAccount → Data
storage_json a = fields (
    (codes "absoluteMinimumPartSize", amount a.part_min)
    ∷ (codes "apiUrl", string a.url)
    ∷ limits_json a.version a.buckets ++
    ((codes "capabilities", caps_json a.caps)
    ∷ (codes "downloadUrl", string a.url)
    ∷ (codes "infoType", string (codes "storageApi"))
    ∷ (codes "namePrefix", unless_empty a.prefix)
    ∷ (codes "recommendedPartSize", amount 100000000) ∷ []))

abbrev pub account_json : ShownAccount → Data
account_json a = fields (
    (codes "accountId", string a.account)
    ∷ (codes "apiInfo", fields ((codes "storageApi", storage_json a) ∷ []))
    ∷ (codes "applicationKeyExpirationTimestamp", or_null amount a.end)
    ∷ (codes "authorizationToken", string a.token) ∷ [])

-- the buckets of a key: the least of them, in version 4 all
abbrev pub key_buckets : ApiVersion → List ℕ → List ℕ × Data
key_buckets version.V3 buckets = (codes "bucketId", or_null bucket_id_json (slice_get buckets 0))
key_buckets version.V4 buckets = (codes "bucketIds", list_or_null bucket_id_json buckets)

-- what version 3 can't tell of a key's buckets, it says here
abbrev pub key_options : ApiVersion → List ℕ → Data
key_options version.V3 buckets = if nat_lt 1 (length buckets) then list_of string (codes "multiBucket" ∷ []) else no_items
key_options version.V4 buckets = no_items

abbrev pub key_fields : ShownKey → List (List ℕ × Data)
key_fields k =
    (codes "accountId", string k.account)
    ∷ (codes "applicationKeyId", string (key_id k.account k.num))
    ∷ key_buckets k.version k.buckets
    ∷ (codes "capabilities", caps_json k.caps)
    ∷ (codes "expirationTimestamp", or_null amount k.end)
    ∷ (codes "keyName", string k.name)
    ∷ (codes "namePrefix", unless_empty k.prefix)
    ∷ (codes "options", key_options k.version k.buckets) ∷ []

-- ---- buckets

abbrev pub mode_json : Mode → Data
mode_json mode.Governance = string (codes "governance")
mode_json mode.Compliance = string (codes "compliance")

abbrev pub period_json : Period → Data
period_json (period.Days n) = fields ((codes "duration", amount n) ∷ (codes "unit", string (codes "days")) ∷ [])
period_json (period.Years n) = fields ((codes "duration", amount n) ∷ (codes "unit", string (codes "years")) ∷ [])

abbrev pub default_json : Option DefaultRetention → Data
default_json d = fields (
    (codes "mode", or_null (λ d. mode_json d.mode) d)
    ∷ (codes "period", or_null (λ d. period_json d.period) d) ∷ [])

abbrev pub lock_json : ShownLock → Data
lock_json l = fields (
    (codes "defaultRetention", default_json l.default)
    ∷ (codes "isFileLockEnabled", boolean l.enabled) ∷ [])

abbrev pub rule_json : Rule → Data
rule_json r = fields (
    (codes "daysFromHidingToDeleting", or_null amount r.delete_days)
    ∷ (codes "daysFromStartingToCancelingUnfinishedLargeFiles", or_null amount r.cancel_days)
    ∷ (codes "daysFromUploadingToHiding", or_null amount r.hide_days)
    ∷ (codes "fileNamePrefix", string r.prefix) ∷ [])

abbrev pub bucket_type : Bool → List ℕ
bucket_type public = if public then codes "allPublic" else codes "allPrivate"

abbrev pub bucket_json : ShownBucket → Data
bucket_json b = fields (
    (codes "accountId", string b.account)
    ∷ (codes "bucketId", bucket_id_json b.num)
    ∷ (codes "bucketInfo", info_json b.info)
    ∷ (codes "bucketName", string b.name)
    ∷ (codes "bucketType", string (bucket_type b.public))
    ∷ (codes "corsRules", no_items)
    ∷ (codes "defaultServerSideEncryption", readable {X = Bool} boolean None)
    ∷ (codes "fileLockConfiguration", readable lock_json b.lock)
    ∷ (codes "lifecycleRules", list_of rule_json b.rules)
    ∷ (codes "options", no_items)
    ∷ (codes "revision", amount b.revision) ∷ [])

-- ---- files

abbrev pub action_name : RowKind → List ℕ
action_name row.Upload = codes "upload"
action_name row.Hide = codes "hide"
action_name row.Start = codes "start"
action_name row.Folder = codes "folder"

-- a digest in 40 hex digits, behind a word where nobody vouched for it; a large file has none of its own
abbrev pub digest_by : List ℕ → Mark → List ℕ
digest_by digits mark.Verified = digits
digest_by digits mark.Unverified = codes "unverified:" ++ digits
digest_by digits mark.Large = codes "none"
digest_by digits mark.Marker = codes "none"

abbrev pub digest_text : ShownDigest → List ℕ
digest_text d = digest_by (encode_lower d.digest) d.mark

abbrev pub retention_json : Option Retention → Data
retention_json r = fields (
    (codes "mode", or_null (λ r. mode_json r.mode) r)
    ∷ (codes "retainUntilTimestamp", or_null (λ r. amount r.until) r) ∷ [])

abbrev pub hold_json : Bool → Data
hold_json hold = string (if hold then codes "on" else codes "off")

abbrev pub no_encryption : Data
no_encryption = fields ((codes "algorithm", null) ∷ (codes "mode", null) ∷ [])

-- a folder has no file id
abbrev pub id_by : Data → RowKind → Data
id_by id row.Folder = null
id_by id other = id

abbrev pub file_json : ShownFile → Data
file_json f = fields (
    (codes "accountId", string f.account)
    ∷ (codes "action", string (action_name f.action))
    ∷ (codes "bucketId", bucket_id_json f.bucket)
    ∷ (codes "contentLength", amount f.length)
    ∷ (codes "contentMd5", null)
    ∷ (codes "contentSha1", or_null (λ d. string (digest_text d)) f.digest)
    ∷ (codes "contentType", or_null string f.kind)
    ∷ (codes "fileId", id_by (string (file_id f.bucket f.num)) f.action)
    ∷ (codes "fileInfo", info_json f.info)
    ∷ (codes "fileName", string f.name)
    ∷ (codes "fileRetention", readable retention_json f.retention)
    ∷ (codes "legalHold", readable hold_json f.hold)
    ∷ (codes "serverSideEncryption", no_encryption)
    ∷ (codes "uploadTimestamp", amount f.stamp) ∷ [])

abbrev pub part_json : ShownPart → Data
part_json p = fields (
    (codes "contentLength", amount p.length)
    ∷ (codes "contentMd5", null)
    ∷ (codes "contentSha1", string (digest_text p.digest))
    ∷ (codes "fileId", string (file_id p.bucket p.file))
    ∷ (codes "partNumber", amount p.number)
    ∷ (codes "serverSideEncryption", no_encryption)
    ∷ (codes "uploadTimestamp", amount p.stamp) ∷ [])

abbrev pub id_json : VersionId → Data
id_json id = string (file_id id.bucket id.num)

-- ---- refusals

abbrev pub refusal_json : Fault → Data
refusal_json f = fields (
    (codes "code", string (fault_entry f.kind).code)
    ∷ (codes "message", string (message f))
    ∷ (codes "status", amount (fault_entry f.kind).status.number) ∷ [])

-- ---- answers

-- a token to upload with, and the URL
abbrev pub url_json : (List ℕ × Data) → List ℕ → List ℕ → Data
url_json target token url = fields ((codes "authorizationToken", string token) ∷ target ∷ (codes "uploadUrl", string url) ∷ [])

abbrev pub file_and : ShownName → List (List ℕ × Data) → Data
file_and v more = fields ((codes "fileId", string (file_id v.bucket v.num)) ∷ (codes "fileName", string v.name) ∷ more)

-- The body of every answer that is one of JSON.
abbrev pub body_of : Shown → Data
body_of (shown.Account a) = account_json a
body_of (shown.Bucket b) = bucket_json b
body_of (shown.Buckets bs) = fields ((codes "buckets", list_of bucket_json bs) ∷ [])
body_of (shown.NewKey k) = fields ((codes "applicationKey", string k.secret) ∷ key_fields k.key)
body_of (shown.Key k) = fields (key_fields k)
body_of (shown.Keys ks next) = fields ((codes "keys", list_of (λ k. fields (key_fields k)) ks) ∷ (codes "nextApplicationKeyId", or_null string next) ∷ [])
body_of (shown.UploadUrl u) = url_json (codes "bucketId", bucket_id_json u.bucket) u.token u.url
body_of (shown.PartUrl u) = url_json (codes "fileId", id_json u.file) u.token u.url
body_of (shown.File f) = file_json f
body_of (shown.Part p) = part_json p
body_of (shown.Parts ps next) = fields ((codes "nextPartNumber", or_null amount next) ∷ (codes "parts", list_of part_json ps) ∷ [])
body_of (shown.Cancelled c) = file_and c.file ((codes "accountId", string c.account) ∷ (codes "bucketId", bucket_id_json c.file.bucket) ∷ [])
body_of (shown.FileNames fs next) = fields ((codes "files", list_of file_json fs) ∷ (codes "nextFileName", or_null string next) ∷ [])
body_of (shown.FileVersions fs next) = fields (
    (codes "files", list_of file_json fs)
    ∷ (codes "nextFileId", or_null id_json (option_and_then (λ n. n.version) next))
    ∷ (codes "nextFileName", or_null (λ n. string n.name) next) ∷ [])
body_of (shown.Unfinished fs next) = fields ((codes "files", list_of file_json fs) ∷ (codes "nextFileId", or_null id_json next) ∷ [])
body_of (shown.Deleted v) = file_and v []
body_of (shown.DownloadToken d) = fields (
    (codes "authorizationToken", string d.token)
    ∷ (codes "bucketId", bucket_id_json d.bucket)
    ∷ (codes "fileNamePrefix", string d.prefix) ∷ [])
body_of (shown.Retention v retention) = file_and v ((codes "fileRetention", retention_json retention) ∷ [])
body_of (shown.Hold v hold) = file_and v ((codes "legalHold", hold_json hold) ∷ [])
