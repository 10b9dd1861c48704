-- The bodies of all answers: what they have as fields tells which answer it is, and the rest what it shows.
use Rattle.std.proofs.Common.{◌≡◌, ℕ, List, ◌∷◌, Bool, false, Option, Some, None, is_some, sym, ap, ◌∙◌, refl}
use Rattle.std.specs.Prelude.{codes, ◌==◌, if◌then◌else◌, option_and_then}
use Rattle.std.proofs.lemmas.Bool.{false≢true, eq-eqb}
use Rattle.std.proofs.lemmas.List.{map-id}
use Rattle.serde_json.specs.Data.{Data, string, object, member}
use Rattle.serde_json.specs.Find.{get}
use Rattle.json_shape.specs.Fields.{field}
use Rattle.b2_base.specs.FileId.{file_id}
use Rattle.b2_types.specs.declared.fault.Fault.{Fault}
use Rattle.b2_types.specs.declared.kinds.ApiVersion.{ApiVersion}
use Rattle.b2_types.specs.declared.kinds.ApiVersion.TheVariants as version
use Rattle.b2_types.specs.declared.record.VersionId.{VersionId}
use Rattle.b2_types.specs.declared.shown.NextRow.{NextRow}
use Rattle.b2_types.specs.declared.shown.ShownKey.{ShownKey}
use Rattle.b2_types.specs.declared.shown.ShownName.{ShownName}
use Rattle.b2_types.specs.declared.shown.ShownNewKey.{ShownNewKey}
use Rattle.b2_types.specs.declared.shown.Shown.{Shown}
use Rattle.b2_types.specs.declared.shown.Shown.TheVariants as shown
use Rattle.wire_forms.specs.Body.{fields, or_null, id_json, key_fields, file_json, part_json, bucket_json, refusal_json, body_of}
use Rattle.wire_laws.specs.Told.{told, told_file, told_part, told_key, IsShown, IsId, IsName, IsNext, IsNextRow, IsFile, IsPart, IsKey, IsBucket}
use Rattle.wire_laws.proofs.Plain.{text, is_null, same_list, keeps_list, same_some, same_amount, same_text, same_bucket, same_version}
use Rattle.wire_laws.proofs.Files.{tells_part, keeps_part, same_home}
use Rattle.wire_laws.proofs.Rows.{tells_file, keeps_file, same_hold, same_retention}
use Rattle.wire_laws.proofs.Keys.{key_at, tells_key, keeps_key, tells_account, keeps_account}
use Rattle.wire_laws.proofs.WholeBuckets.{tells_bucket}

-- ---- which answer it is

abbrev has : List ℕ → Data → Bool
has key d = is_some (get key d)

abbrev kind_of : Data → ℕ
kind_of d =
    if has (codes "code") d then 19
    else if has (codes "apiInfo") d then 0
    else if has (codes "bucketType") d then 1
    else if has (codes "buckets") d then 2
    else if has (codes "applicationKey") d then 3
    else if has (codes "keyName") d then 4
    else if has (codes "keys") d then 5
    else if has (codes "uploadUrl") d then (if has (codes "bucketId") d then 6 else 7)
    else if has (codes "action") d then 8
    else if has (codes "partNumber") d then 9
    else if has (codes "parts") d then 10
    else if has (codes "files") d then (if has (codes "nextFileId") d then (if has (codes "nextFileName") d then 13 else 14) else 12)
    else if has (codes "fileNamePrefix") d then 16
    else if has (codes "fileRetention") d then 17
    else if has (codes "legalHold") d then 18
    else if has (codes "bucketId") d then 11
    else 15

abbrev place : Shown → ℕ
place (shown.Account a) = 0
place (shown.Bucket b) = 1
place (shown.Buckets bs) = 2
place (shown.NewKey k) = 3
place (shown.Key k) = 4
place (shown.Keys ks next) = 5
place (shown.UploadUrl u) = 6
place (shown.PartUrl u) = 7
place (shown.File f) = 8
place (shown.Part p) = 9
place (shown.Parts ps next) = 10
place (shown.Cancelled c) = 11
place (shown.FileNames fs next) = 12
place (shown.FileVersions fs next) = 13
place (shown.Unfinished fs next) = 14
place (shown.Deleted v) = 15
place (shown.DownloadToken d) = 16
place (shown.Retention v retention) = 17
place (shown.Hold v hold) = 18

abbrev new_key_at : ApiVersion → ShownKey → List ℕ → Data
new_key_at v k secret = fields ((codes "applicationKey", string secret) ∷ key_fields (record k { version = v }))

new_key_kind : (v : ApiVersion) (k : ShownKey) (secret : List ℕ) → kind_of (new_key_at v k secret) ≡ 3
new_key_kind version.V3 k secret = refl
new_key_kind version.V4 k secret = refl

key_kind : (v : ApiVersion) (k : ShownKey) → kind_of (key_at v k) ≡ 4
key_kind version.V3 k = refl
key_kind version.V4 k = refl

kind_told : (s : Shown) → kind_of (body_of s) ≡ place s
kind_told (shown.Account a) = refl
kind_told (shown.Bucket b) = refl
kind_told (shown.Buckets bs) = refl
kind_told (shown.NewKey k) = new_key_kind k.key.version k.key k.secret
kind_told (shown.Key k) = key_kind k.version k
kind_told (shown.Keys ks next) = refl
kind_told (shown.UploadUrl u) = refl
kind_told (shown.PartUrl u) = refl
kind_told (shown.File f) = refl
kind_told (shown.Part p) = refl
kind_told (shown.Parts ps next) = refl
kind_told (shown.Cancelled c) = refl
kind_told (shown.FileNames fs next) = refl
kind_told (shown.FileVersions fs next) = refl
kind_told (shown.Unfinished fs next) = refl
kind_told (shown.Deleted v) = refl
kind_told (shown.DownloadToken d) = refl
kind_told (shown.Retention v retention) = refl
kind_told (shown.Hold v hold) = refl

no_refusal : (s : Shown) → (place s == 19) ≡ false
no_refusal (shown.Account a) = refl
no_refusal other = refl

pub refusal_apart : (f : Fault) (s : Shown) → refusal_json f ≡ body_of s → ⊥
refusal_apart f s same =
    let nineteen : 19 ≡ place s = ap kind_of same ∙ kind_told s in
    false≢true (sym (no_refusal s) ∙ eq-eqb (place s) 19 (sym nineteen))

-- ---- what it shows

abbrev id_of : List ℕ → Data → List ℕ
id_of key d = text (field key d)

same_id : (a b : VersionId) → IsId a → IsId b → id_json a ≡ id_json b → a ≡ b
same_id a b first second same =
    let bucket : a.bucket ≡ b.bucket = same_home a.bucket a.num b.bucket b.num first.0 second.0 (ap text same) in
    let num : a.num ≡ b.num = same_version a.bucket a.num b.bucket b.num first.1 second.1 (ap text same) in
    λ i. record { bucket = bucket i; num = num i }

same_name : (a b : ShownName) → IsName a → IsName b → file_id a.bucket a.num ≡ file_id b.bucket b.num → a.name ≡ b.name → a ≡ b
same_name a b first second ids name =
    let bucket : a.bucket ≡ b.bucket = same_home a.bucket a.num b.bucket b.num first.0 second.0 ids in
    let num : a.num ≡ b.num = same_version a.bucket a.num b.bucket b.num first.1 second.1 ids in
    λ i. record { bucket = bucket i; num = num i; name = name i }

same_next : (a b : Option VersionId) → IsNext a → IsNext b → or_null id_json a ≡ or_null id_json b → a ≡ b
same_next a b first second same = same_some id_json (λ id. refl) a b (λ x y is_x is_y both. same_id x y (first x is_x) (second y is_y) both) same

abbrev next_version : Option NextRow → Option VersionId
next_version next = option_and_then (λ n. n.version) next

abbrev next_name : Option NextRow → Data
next_name next = or_null (λ n. string n.name) next

same_row : (a b : Option NextRow) → IsNextRow a → IsNextRow b → or_null id_json (next_version a) ≡ or_null id_json (next_version b) → next_name a ≡ next_name b → a ≡ b
same_row None None first second ids names = refl
same_row None (Some y) first second ids names = absurd (false≢true (ap is_null (sym names)))
same_row (Some x) None first second ids names = absurd (false≢true (ap is_null names))
same_row (Some x) (Some y) first second ids names =
    let name : x.name ≡ y.name = ap text names in
    let version : x.version ≡ y.version = same_next x.version y.version (first x refl) (second y refl) ids in
    λ i. Some (record { name = name i; version = version i })

abbrev keys_json : ShownKey → Data
keys_json k = fields (key_fields k)

-- a new key is a key with a field more
abbrev without_second : Data → Data
without_second (object (member k d (member l e ms))) = object (member k d ms)
without_second other = other

new_key_plain : (v : ApiVersion) (k : ShownKey) (secret : List ℕ) → without_second (new_key_at v k secret) ≡ key_at v k
new_key_plain version.V3 k secret = refl
new_key_plain version.V4 k secret = refl

new_key_secret : (v : ApiVersion) (k : ShownKey) (secret : List ℕ) → text (field (codes "applicationKey") (new_key_at v k secret)) ≡ secret
new_key_secret version.V3 k secret = refl
new_key_secret version.V4 k secret = refl

same_new_key : (a b : ShownNewKey) → IsKey a.key → IsKey b.key → body_of (shown.NewKey a) ≡ body_of (shown.NewKey b) → told (shown.NewKey a) ≡ told (shown.NewKey b)
same_new_key a b first second same =
    let plain : keys_json a.key ≡ keys_json b.key = sym (new_key_plain a.key.version a.key a.secret) ∙ ap without_second same ∙ new_key_plain b.key.version b.key b.secret in
    let key : told_key a.key ≡ told_key b.key = tells_key a.key b.key first second plain in
    let secret : a.secret ≡ b.secret =
    sym (new_key_secret a.key.version a.key a.secret) ∙ ap (λ d. text (field (codes "applicationKey") d)) same ∙ new_key_secret b.key.version b.key b.secret in
    λ i. shown.NewKey (record { key = key i; secret = secret i })

apart : (m n : ℕ) → (m == n) ≡ false → m ≡ n → ⊥
apart m n test same = false≢true (sym test ∙ eq-eqb m n same)

told_alike : (a b : Shown) → IsShown a → IsShown b → place a ≡ place b → body_of a ≡ body_of b → told a ≡ told b
told_alike (shown.Account a) (shown.Account b) first second kind same = ap shown.Account (tells_account a b first second same)
told_alike (shown.Bucket a) (shown.Bucket b) first second kind same = ap shown.Bucket (tells_bucket a b first second same)
told_alike (shown.Buckets xs) (shown.Buckets ys) first second kind same =
    ap shown.Buckets (sym (map-id xs) ∙ same_list bucket_json (λ b. b) IsBucket tells_bucket xs ys first second (ap (field (codes "buckets")) same) ∙ map-id ys)
told_alike (shown.NewKey a) (shown.NewKey b) first second kind same = same_new_key a b first second same
told_alike (shown.Key k) (shown.Key l) first second kind same = ap shown.Key (tells_key k l first second same)
told_alike (shown.Keys xs next) (shown.Keys ys after) first second kind same =
    let keys = same_list keys_json told_key IsKey tells_key xs ys first second (ap (field (codes "keys")) same) in
    let id : next ≡ after = same_text next after (ap (field (codes "nextApplicationKeyId")) same) in
    λ i. shown.Keys (keys i) (id i)
told_alike (shown.UploadUrl u) (shown.UploadUrl v) first second kind same =
    let bucket : u.bucket ≡ v.bucket = same_bucket u.bucket v.bucket first second (ap (λ d. text (field (codes "bucketId") d)) same) in
    let token : u.token ≡ v.token = ap (λ d. text (field (codes "authorizationToken") d)) same in
    let url : u.url ≡ v.url = ap (λ d. text (field (codes "uploadUrl") d)) same in
    λ i. shown.UploadUrl (record { bucket = bucket i; token = token i; url = url i })
told_alike (shown.PartUrl u) (shown.PartUrl v) first second kind same =
    let file : u.file ≡ v.file = same_id u.file v.file first second (ap (field (codes "fileId")) same) in
    let token : u.token ≡ v.token = ap (λ d. text (field (codes "authorizationToken") d)) same in
    let url : u.url ≡ v.url = ap (λ d. text (field (codes "uploadUrl") d)) same in
    λ i. shown.PartUrl (record { file = file i; token = token i; url = url i })
told_alike (shown.File f) (shown.File g) first second kind same = ap shown.File (tells_file f g first second same)
told_alike (shown.Part p) (shown.Part q) first second kind same = ap shown.Part (tells_part p q first second same)
told_alike (shown.Parts xs next) (shown.Parts ys after) first second kind same =
    let parts = same_list part_json told_part IsPart tells_part xs ys first second (ap (field (codes "parts")) same) in
    let number : next ≡ after = same_amount next after (ap (field (codes "nextPartNumber")) same) in
    λ i. shown.Parts (parts i) (number i)
told_alike (shown.Cancelled c) (shown.Cancelled e) first second kind same =
    let account : c.account ≡ e.account = ap (λ d. text (field (codes "accountId") d)) same in
    let file : c.file ≡ e.file = same_name c.file e.file first second (ap (id_of (codes "fileId")) same) (ap (id_of (codes "fileName")) same) in
    λ i. shown.Cancelled (record { account = account i; file = file i })
told_alike (shown.FileNames xs next) (shown.FileNames ys after) first second kind same =
    let files = same_list file_json told_file IsFile tells_file xs ys first second (ap (field (codes "files")) same) in
    let name : next ≡ after = same_text next after (ap (field (codes "nextFileName")) same) in
    λ i. shown.FileNames (files i) (name i)
told_alike (shown.FileVersions xs next) (shown.FileVersions ys after) first second kind same =
    let files = same_list file_json told_file IsFile tells_file xs ys first.0 second.0 (ap (field (codes "files")) same) in
    let row : next ≡ after = same_row next after first.1 second.1 (ap (field (codes "nextFileId")) same) (ap (field (codes "nextFileName")) same) in
    λ i. shown.FileVersions (files i) (row i)
told_alike (shown.Unfinished xs next) (shown.Unfinished ys after) first second kind same =
    let files = same_list file_json told_file IsFile tells_file xs ys first.0 second.0 (ap (field (codes "files")) same) in
    let id : next ≡ after = same_next next after first.1 second.1 (ap (field (codes "nextFileId")) same) in
    λ i. shown.Unfinished (files i) (id i)
told_alike (shown.Deleted v) (shown.Deleted w) first second kind same =
    ap shown.Deleted (same_name v w first second (ap (id_of (codes "fileId")) same) (ap (id_of (codes "fileName")) same))
told_alike (shown.DownloadToken a) (shown.DownloadToken b) first second kind same =
    let bucket : a.bucket ≡ b.bucket = same_bucket a.bucket b.bucket first second (ap (λ d. text (field (codes "bucketId") d)) same) in
    let prefix : a.prefix ≡ b.prefix = ap (λ d. text (field (codes "fileNamePrefix") d)) same in
    let token : a.token ≡ b.token = ap (λ d. text (field (codes "authorizationToken") d)) same in
    λ i. shown.DownloadToken (record { bucket = bucket i; prefix = prefix i; token = token i })
told_alike (shown.Retention v r) (shown.Retention w s) first second kind same =
    let name : v ≡ w = same_name v w first second (ap (id_of (codes "fileId")) same) (ap (id_of (codes "fileName")) same) in
    let retention : r ≡ s = same_retention r s (ap (field (codes "fileRetention")) same) in
    λ i. shown.Retention (name i) (retention i)
told_alike (shown.Hold v g) (shown.Hold w h) first second kind same =
    let name : v ≡ w = same_name v w first second (ap (id_of (codes "fileId")) same) (ap (id_of (codes "fileName")) same) in
    let hold : g ≡ h = same_hold g h (ap (field (codes "legalHold")) same) in
    λ i. shown.Hold (name i) (hold i)
told_alike a b first second kind same = absurd (apart (place a) (place b) refl kind)

pub tells : (a b : Shown) → IsShown a → IsShown b → body_of a ≡ body_of b → told a ≡ told b
tells a b first second same = told_alike a b first second (sym (kind_told a) ∙ ap kind_of same ∙ kind_told b) same

pub keeps : (s : Shown) → body_of (told s) ≡ body_of s
keeps (shown.Account a) = keeps_account a
keeps (shown.NewKey k) = ap (λ fs. fields ((codes "applicationKey", string k.secret) ∷ fs)) (keeps_key k.key)
keeps (shown.Key k) = ap fields (keeps_key k)
keeps (shown.Keys ks next) = rw (keeps_list keys_json told_key (λ k. ap fields (keeps_key k)) ks) refl
keeps (shown.File f) = keeps_file f
keeps (shown.Part p) = keeps_part p
keeps (shown.Parts ps next) = rw (keeps_list part_json told_part keeps_part ps) refl
keeps (shown.FileNames fs next) = rw (keeps_list file_json told_file keeps_file fs) refl
keeps (shown.FileVersions fs next) = rw (keeps_list file_json told_file keeps_file fs) refl
keeps (shown.Unfinished fs next) = rw (keeps_list file_json told_file keeps_file fs) refl
keeps other = refl
