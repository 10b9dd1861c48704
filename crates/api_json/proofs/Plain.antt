-- What answers say has no float.
use Rattle.std.proofs.Common.{◌≡◌, ◌==◌, ℕ, Bool, true, false, cond, List, [], ◌∷◌, ◌++◌, length, map, filter, Option, Some, None, refl, nat_lt}
use Rattle.std.specs.Prelude.{◌||◌, slice_get, codes, option_and_then}
use Rattle.std.specs.Ordering.{nat_cmp, match_ordering}
use Rattle.std.specs.Cmp.Lexicographic.{slice_cmp}
use Rattle.std.specs.declared.cmp.Ordering.TheVariants.{Less, Equal, Greater}
use Rattle.std.proofs.lemmas.Bool.{or_from, or_parts}
use Rattle.serde_json.specs.Data.{Data, Members, no_members, member, null, string, boolean, array, put}
use Rattle.serde_json.specs.View.{items_of}
use Rattle.serde_json.specs.Written.{has_float, members_have_float}
use Rattle.rule_table.specs.declared.cap.Cap.{Cap}
use Rattle.rule_table.specs.declared.cap_set.CapSet.{CapSet}
use Rattle.rule_table.specs.Cap.{cap_order}
use Rattle.rule_table.specs.CapSet.{has}
use Rattle.b2_types.specs.declared.bucket.DefaultRetention.{DefaultRetention}
use Rattle.b2_types.specs.declared.bucket.Rule.{Rule}
use Rattle.b2_types.specs.declared.fault.Fault.{Fault}
use Rattle.b2_types.specs.declared.kinds.ApiVersion.{ApiVersion}
use Rattle.b2_types.specs.declared.kinds.ApiVersion.TheVariants as version
use Rattle.b2_types.specs.declared.kinds.Mode.{Mode}
use Rattle.b2_types.specs.declared.kinds.Mode.TheVariants as mode
use Rattle.b2_types.specs.declared.kinds.Period.{Period}
use Rattle.b2_types.specs.declared.kinds.Period.TheVariants as period
use Rattle.b2_types.specs.declared.kinds.Retention.{Retention}
use Rattle.b2_types.specs.declared.record.VersionId.{VersionId}
use Rattle.b2_types.specs.declared.shown.RowKind.{RowKind}
use Rattle.b2_types.specs.declared.shown.RowKind.TheVariants as row
use Rattle.b2_types.specs.declared.shown.NextRow.{NextRow}
use Rattle.b2_types.specs.declared.shown.ShownAccount.{ShownAccount}
use Rattle.b2_types.specs.declared.shown.ShownBucket.{ShownBucket}
use Rattle.b2_types.specs.declared.shown.ShownDigest.{ShownDigest}
use Rattle.b2_types.specs.declared.shown.ShownFile.{ShownFile}
use Rattle.b2_types.specs.declared.shown.ShownKey.{ShownKey}
use Rattle.b2_types.specs.declared.shown.ShownLimit.{ShownLimit}
use Rattle.b2_types.specs.declared.shown.ShownLock.{ShownLock}
use Rattle.b2_types.specs.declared.shown.ShownPart.{ShownPart}
use Rattle.b2_types.specs.declared.shown.Shown.{Shown}
use Rattle.b2_types.specs.declared.shown.Shown.TheVariants as shown
use Rattle.b2_base.specs.FileId.{file_id}
use Rattle.wire_forms.specs.Body.{fields, amount, or_null, unless_empty, list_of, list_or_null, no_items, info_json, readable, cap_name, caps_json, bucket_id_json, limit_json, limits_json, storage_json, account_json, key_buckets, key_options, key_fields, mode_json, period_json, default_json, lock_json, rule_json, bucket_type, bucket_json, action_name, digest_text, retention_json, hold_json, no_encryption, id_by, file_json, part_json, id_json, refusal_json, body_of}
use Rattle.api_json.specs.Put.{put_all}

-- a field has a float
abbrev any_float : List (List ℕ × Data) → Bool
any_float [] = false
any_float (pair ∷ pairs) = has_float pair.1 || any_float pairs

put_plain : (k : List ℕ) (d : Data) (ms : Members) → has_float d ≡ false → members_have_float ms ≡ false → members_have_float (put k d ms) ≡ false
put_plain k d no_members here rest = or_from (has_float d) false here refl
put_plain k d (member l e ms) here rest =
    let parts = or_parts (has_float e) (members_have_float ms) rest in
    elim (slice_cmp nat_cmp k l) as (λ o. members_have_float (match_ordering o (member k d (member l e ms)) (member l d ms) (member l e (put k d ms))) ≡ false) [
      | Less ↦ or_from (has_float d) (has_float e || members_have_float ms) here rest
      | Equal ↦ or_from (has_float d) (members_have_float ms) here parts.1
      | Greater ↦ or_from (has_float e) (members_have_float (put k d ms)) parts.0 (put_plain k d ms here parts.1)
    ]

put_all_plain : (pairs : List (List ℕ × Data)) (ms : Members) → any_float pairs ≡ false → members_have_float ms ≡ false → members_have_float (put_all ms pairs) ≡ false
put_all_plain [] ms none rest = rest
put_all_plain (pair ∷ pairs) ms none rest =
    let parts = or_parts (has_float pair.1) (any_float pairs) none in
    put_all_plain pairs (put pair.0 pair.1 ms) parts.1 (put_plain pair.0 pair.1 ms parts.0 rest)

fields_plain : (pairs : List (List ℕ × Data)) → any_float pairs ≡ false → has_float (fields pairs) ≡ false
fields_plain pairs none = put_all_plain pairs no_members none refl

list_plain : {X : Type 0} (json : X → Data) → ((x : X) → has_float (json x) ≡ false) → (xs : List X) → has_float (list_of json xs) ≡ false
list_plain json each [] = refl
list_plain json each (x ∷ xs) = or_from (has_float (json x)) (has_float (list_of json xs)) (each x) (list_plain json each xs)

null_plain : {X : Type 0} (json : X → Data) → ((x : X) → has_float (json x) ≡ false) → (o : Option X) → has_float (or_null json o) ≡ false
null_plain json each None = refl
null_plain json each (Some x) = each x

readable_plain : {X : Type 0} (json : X → Data) → ((x : X) → has_float (json x) ≡ false) → (o : Option X) → has_float (readable json o) ≡ false
readable_plain json each None = refl
readable_plain json each (Some x) = rw (each x) refl

unless_plain : {X : Type 0} (json : X → Data) → ((x : X) → has_float (json x) ≡ false) → (xs : List X) → has_float (list_or_null json xs) ≡ false
unless_plain json each xs = elim (length xs == 0) as (λ t. has_float (cond t null (list_of json xs)) ≡ false) [ true ↦ refl | false ↦ list_plain json each xs ]

text_plain : (o : Option (List ℕ)) → has_float (or_null string o) ≡ false
text_plain = null_plain string (λ t. refl)

amount_plain : (o : Option ℕ) → has_float (or_null amount o) ≡ false
amount_plain = null_plain amount (λ n. refl)

prefix_plain : (text : List ℕ) → has_float (unless_empty text) ≡ false
prefix_plain text = elim (length text == 0) as (λ t. has_float (cond t null (string text)) ≡ false) [ true ↦ refl | false ↦ refl ]

caps_plain : (caps : CapSet) → has_float (caps_json caps) ≡ false
caps_plain caps = list_plain (λ c. string (cap_name c)) (λ c. refl) (filter (has caps) cap_order)

info_pairs_plain : (info : List (List ℕ × List ℕ)) → any_float (map (λ pair. (pair.0, string pair.1)) info) ≡ false
info_pairs_plain [] = refl
info_pairs_plain (pair ∷ info) = info_pairs_plain info

info_plain : (info : List (List ℕ × List ℕ)) → has_float (info_json info) ≡ false
info_plain info = fields_plain (map (λ pair. (pair.0, string pair.1)) info) (info_pairs_plain info)

limit_plain : (l : ShownLimit) → has_float (limit_json l) ≡ false
limit_plain l = rw (text_plain l.name) refl

limits_plain : (v : ApiVersion) (limits : List ShownLimit) (rest : List (List ℕ × Data)) → any_float rest ≡ false → any_float (limits_json v limits ++ rest) ≡ false
limits_plain version.V3 limits rest none =
    rw (null_plain (λ (l : ShownLimit). bucket_id_json l.bucket) (λ l. refl) (slice_get limits 0), text_plain (option_and_then (λ (l : ShownLimit). l.name) (slice_get limits 0))) none
limits_plain version.V4 limits rest none = rw (unless_plain limit_json limit_plain limits) none

storage_plain : (a : ShownAccount) → has_float (storage_json a) ≡ false
storage_plain a =
    let rest : List (List ℕ × Data) = (codes "capabilities", caps_json a.caps) ∷ (codes "downloadUrl", string a.url) ∷ (codes "infoType", string (codes "storageApi")) ∷ (codes "namePrefix", unless_empty a.prefix) ∷ (codes "recommendedPartSize", amount 100000000) ∷ [] in
    let none : any_float rest ≡ false = rw (caps_plain a.caps, prefix_plain a.prefix) refl in
    fields_plain ((codes "absoluteMinimumPartSize", amount a.part_min) ∷ (codes "apiUrl", string a.url) ∷ limits_json a.version a.buckets ++ rest) (limits_plain a.version a.buckets rest none)

account_plain : (a : ShownAccount) → has_float (account_json a) ≡ false
account_plain a = rw (storage_plain a, amount_plain a.end) refl

key_buckets_plain : (v : ApiVersion) (buckets : List ℕ) → has_float (key_buckets v buckets).1 ≡ false
key_buckets_plain version.V3 buckets = null_plain bucket_id_json (λ n. refl) (slice_get buckets 0)
key_buckets_plain version.V4 buckets = unless_plain bucket_id_json (λ n. refl) buckets

key_options_plain : (v : ApiVersion) (buckets : List ℕ) → has_float (key_options v buckets) ≡ false
key_options_plain version.V3 buckets = elim (nat_lt 1 (length buckets)) as (λ t. has_float (cond t (list_of string (codes "multiBucket" ∷ [])) no_items) ≡ false) [ true ↦ refl | false ↦ refl ]
key_options_plain version.V4 buckets = refl

key_fields_plain : (k : ShownKey) → any_float (key_fields k) ≡ false
key_fields_plain k = rw (key_buckets_plain k.version k.buckets, caps_plain k.caps, amount_plain k.end, prefix_plain k.prefix, key_options_plain k.version k.buckets) refl

key_plain : (k : ShownKey) → has_float (fields (key_fields k)) ≡ false
key_plain k = fields_plain (key_fields k) (key_fields_plain k)

mode_plain : (m : Mode) → has_float (mode_json m) ≡ false
mode_plain mode.Governance = refl
mode_plain mode.Compliance = refl

period_plain : (p : Period) → has_float (period_json p) ≡ false
period_plain (period.Days n) = refl
period_plain (period.Years n) = refl

default_plain : (d : Option DefaultRetention) → has_float (default_json d) ≡ false
default_plain None = refl
default_plain (Some d) = rw (mode_plain d.mode, period_plain d.period) refl

lock_plain : (l : ShownLock) → has_float (lock_json l) ≡ false
lock_plain l = rw (default_plain l.default) refl

rule_plain : (r : Rule) → has_float (rule_json r) ≡ false
rule_plain r = rw (amount_plain r.delete_days, amount_plain r.cancel_days, amount_plain r.hide_days) refl

bucket_plain : (b : ShownBucket) → has_float (bucket_json b) ≡ false
bucket_plain b = rw (info_plain b.info, readable_plain lock_json lock_plain b.lock, list_plain rule_json rule_plain b.rules) refl

digest_plain : (o : Option ShownDigest) → has_float (or_null (λ d. string (digest_text d)) o) ≡ false
digest_plain = null_plain (λ d. string (digest_text d)) (λ d. refl)

retention_plain : (r : Option Retention) → has_float (retention_json r) ≡ false
retention_plain None = refl
retention_plain (Some r) = rw (mode_plain r.mode) refl

row_id_plain : (id : List ℕ) (a : RowKind) → has_float (id_by (string id) a) ≡ false
row_id_plain id row.Upload = refl
row_id_plain id row.Hide = refl
row_id_plain id row.Start = refl
row_id_plain id row.Folder = refl

file_plain : (f : ShownFile) → has_float (file_json f) ≡ false
file_plain f = rw (digest_plain f.digest, text_plain f.kind, row_id_plain (file_id f.bucket f.num) f.action, info_plain f.info, readable_plain retention_json retention_plain f.retention, readable_plain hold_json (λ h. refl) f.hold) refl

part_plain : (p : ShownPart) → has_float (part_json p) ≡ false
part_plain p = refl

pub refusal_plain : (f : Fault) → has_float (refusal_json f) ≡ false
refusal_plain f = refl

version_plain : (o : Option VersionId) → has_float (or_null id_json o) ≡ false
version_plain = null_plain id_json (λ id. refl)

pub body_plain : (s : Shown) → has_float (body_of s) ≡ false
body_plain (shown.Account a) = account_plain a
body_plain (shown.Bucket b) = bucket_plain b
body_plain (shown.Buckets bs) = rw (list_plain bucket_json bucket_plain bs) refl
body_plain (shown.NewKey k) = fields_plain ((codes "applicationKey", string k.secret) ∷ key_fields k.key) (key_fields_plain k.key)
body_plain (shown.Key k) = key_plain k
body_plain (shown.Keys ks next) = rw (list_plain (λ k. fields (key_fields k)) key_plain ks, text_plain next) refl
body_plain (shown.UploadUrl u) = refl
body_plain (shown.PartUrl u) = refl
body_plain (shown.File f) = file_plain f
body_plain (shown.Part p) = part_plain p
body_plain (shown.Parts ps next) = rw (amount_plain next, list_plain part_json part_plain ps) refl
body_plain (shown.Cancelled c) = refl
body_plain (shown.FileNames fs next) = rw (list_plain file_json file_plain fs, text_plain next) refl
body_plain (shown.FileVersions fs next) =
    rw (list_plain file_json file_plain fs, version_plain (option_and_then (λ (n : NextRow). n.version) next), null_plain (λ (n : NextRow). string n.name) (λ n. refl) next) refl
body_plain (shown.Unfinished fs next) = rw (list_plain file_json file_plain fs, version_plain next) refl
body_plain (shown.Deleted v) = refl
body_plain (shown.DownloadToken d) = refl
body_plain (shown.Retention v retention) = rw (retention_plain retention) refl
body_plain (shown.Hold v hold) = refl
