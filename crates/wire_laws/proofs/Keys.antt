-- Keys and accounts whose bodies are the same are the same but for what is not told.
use Rattle.std.proofs.Common.{◌≡◌, ℕ, zero, suc, ◌<◌, ◌^◌, List, [], ◌∷◌, ◌++◌, length, take, Bool, is_some, slice_get, sym, ap, ◌∙◌, refl, arith, length-append}
use Rattle.std.specs.Prelude.{All, codes, option_and_then}
use Rattle.std.proofs.lemmas.Bool.{false≢true}
use Rattle.std.proofs.lemmas.List.{append_cancel_left, map-id}
use Rattle.std.proofs.lemmas.List.Elements.{All-head}
use Rattle.std.proofs.Math.Dec.{eqb-suc-zero}
use Rattle.serde_json.specs.Data.{Data, string}
use Rattle.serde_json.specs.Find.{get}
use Rattle.json_shape.specs.Fields.{field}
use Rattle.b2_base.specs.Digits.{eight_digits}
use Rattle.b2_base.proofs.DigitsLemmas.{same_eight}
use Rattle.b2_types.specs.declared.kinds.ApiVersion.{ApiVersion}
use Rattle.b2_types.specs.declared.kinds.ApiVersion.TheVariants as version
use Rattle.b2_types.specs.declared.shown.ShownAccount.{ShownAccount}
use Rattle.b2_types.specs.declared.shown.ShownKey.{ShownKey}
use Rattle.b2_types.specs.declared.shown.ShownLimit.{ShownLimit}
use Rattle.b2_types.specs.KeyId.{key_id}
use Rattle.wire_forms.specs.Body.{fields, amount, or_null, unless_empty, list_of, caps_json, bucket_id_json, limit_json, limits_json, storage_json, account_json, key_fields}
use Rattle.wire_laws.specs.Told.{told_buckets, told_key, told_limits, told_account, IsKey, IsAccount}
use Rattle.wire_laws.proofs.Plain.{text, count, is_null, same_list, same_bucket, same_amount, same_text, same_prefix}
use Rattle.wire_laws.proofs.Buckets.{tells_first, keeps_first, keeps_options, tells_all}
use Rattle.wire_laws.proofs.Caps.{same_caps}

-- ---- ids of keys

abbrev front : List ℕ → List ℕ
front account = codes "001" ++ account ++ codes "00"

long_id : (account : List ℕ) (n : ℕ) → key_id account (suc n) ≡ front account ++ eight_digits (suc n)
long_id account n = rw (eqb-suc-zero n) refl

not_master : (account : List ℕ) (n : ℕ) → account ≡ key_id account (suc n) → ⊥
not_master account n same =
    let longer : length account ≡ length (front account ++ eight_digits (suc n)) = ap length (same ∙ long_id account n) in
    omega (arith, longer, length-append (front account) (eight_digits (suc n)), length-append (codes "001" ++ account) (codes "00"), length-append (codes "001") account)

same_key : (account : List ℕ) (m n : ℕ) → m < 2 ^ 32 → n < 2 ^ 32 → key_id account m ≡ key_id account n → m ≡ n
same_key account zero zero small_m small_n same = refl
same_key account zero (suc n) small_m small_n same = absurd (not_master account n same)
same_key account (suc m) zero small_m small_n same = absurd (not_master account m (sym same))
same_key account (suc m) (suc n) small_m small_n same =
    let both = sym (long_id account m) ∙ same ∙ long_id account n in
    same_eight (suc m) (suc n) small_m small_n (append_cancel_left (front account) (eight_digits (suc m)) (eight_digits (suc n)) both)

-- ---- keys

abbrev pub key_at : ApiVersion → ShownKey → Data
key_at v k = fields (key_fields (record k { version = v }))

-- version 3 has this field
abbrev is_third : Data → Bool
is_third d = is_some (get (codes "bucketId") d)

key_by_fields : (v : ApiVersion) (k l : ShownKey) → IsKey k → IsKey l
    → string k.account ≡ string l.account → string (key_id k.account k.num) ≡ string (key_id l.account l.num) → caps_json k.caps ≡ caps_json l.caps
    → or_null amount k.end ≡ or_null amount l.end → string k.name ≡ string l.name → unless_empty k.prefix ≡ unless_empty l.prefix
    → told_buckets v k.buckets ≡ told_buckets v l.buckets → told_key (record k { version = v }) ≡ told_key (record l { version = v })
key_by_fields v k l first second accounts ids caps ends names prefixes buckets =
    let account : k.account ≡ l.account = ap text accounts in
    let alike : key_id k.account k.num ≡ key_id k.account l.num = ap text ids ∙ ap (λ a. key_id a l.num) (sym account) in
    let num : k.num ≡ l.num = same_key k.account k.num l.num first.num second.num alike in
    let name : k.name ≡ l.name = ap text names in
    let held : k.caps ≡ l.caps = same_caps k.caps l.caps first.caps second.caps caps in
    let prefix : k.prefix ≡ l.prefix = same_prefix k.prefix l.prefix prefixes in
    let end : k.end ≡ l.end = same_amount k.end l.end ends in
    λ i. record {
      version = v;
      account = account i;
      num = num i;
      name = name i;
      caps = held i;
      buckets = buckets i;
      prefix = prefix i;
      end = end i;
    }

key_by : (v w : ApiVersion) (k l : ShownKey) → IsKey k → IsKey l → key_at v k ≡ key_at w l → told_key (record k { version = v }) ≡ told_key (record l { version = w })
key_by version.V3 version.V4 k l first second same = absurd (false≢true (ap is_third (sym same)))
key_by version.V4 version.V3 k l first second same = absurd (false≢true (ap is_third same))
key_by version.V3 version.V3 k l first second same =
    key_by_fields version.V3 k l first second (ap (field (codes "accountId")) same) (ap (field (codes "applicationKeyId")) same) (ap (field (codes "capabilities")) same)
    (ap (field (codes "expirationTimestamp")) same) (ap (field (codes "keyName")) same) (ap (field (codes "namePrefix")) same)
    (tells_first k.buckets l.buckets first.buckets second.buckets (ap (λ d. (codes "bucketId", field (codes "bucketId") d)) same) (ap (field (codes "options")) same))
key_by version.V4 version.V4 k l first second same =
    key_by_fields version.V4 k l first second (ap (field (codes "accountId")) same) (ap (field (codes "applicationKeyId")) same) (ap (field (codes "capabilities")) same)
    (ap (field (codes "expirationTimestamp")) same) (ap (field (codes "keyName")) same) (ap (field (codes "namePrefix")) same)
    (tells_all k.buckets l.buckets first.buckets second.buckets (ap (λ d. (codes "bucketIds", field (codes "bucketIds") d)) same))

pub tells_key : (k l : ShownKey) → IsKey k → IsKey l → fields (key_fields k) ≡ fields (key_fields l) → told_key k ≡ told_key l
tells_key k l first second same = key_by k.version l.version k l first second same

keeps_key_by : (v : ApiVersion) (k : ShownKey) → key_fields (told_key (record k { version = v })) ≡ key_fields (record k { version = v })
keeps_key_by version.V3 k = rw (keeps_first k.buckets, keeps_options k.buckets) refl
keeps_key_by version.V4 k = refl

pub keeps_key : (k : ShownKey) → key_fields (told_key k) ≡ key_fields k
keeps_key k = keeps_key_by k.version k

-- ---- accounts

first_limits : (xs ys : List ShownLimit) → All (λ l. l.bucket < 2 ^ 32) xs → All (λ l. l.bucket < 2 ^ 32) ys
    → or_null (λ l. bucket_id_json l.bucket) (slice_get xs 0) ≡ or_null (λ l. bucket_id_json l.bucket) (slice_get ys 0)
    → or_null string (option_and_then (λ l. l.name) (slice_get xs 0)) ≡ or_null string (option_and_then (λ l. l.name) (slice_get ys 0)) → take 1 xs ≡ take 1 ys
first_limits [] [] first second ids names = refl
first_limits [] (y ∷ ys) first second ids names = absurd (false≢true (ap is_null (sym ids)))
first_limits (x ∷ xs) [] first second ids names = absurd (false≢true (ap is_null ids))
first_limits (x ∷ xs) (y ∷ ys) first second ids names =
    let bucket : x.bucket ≡ y.bucket = same_bucket x.bucket y.bucket (All-head (λ l. l.bucket < 2 ^ 32) x xs first) (All-head (λ l. l.bucket < 2 ^ 32) y ys second) (ap text ids) in
    let name : x.name ≡ y.name = same_text x.name y.name names in
    λ i. record { bucket = bucket i; name = name i } ∷ []

same_limit : (x y : ShownLimit) → x.bucket < 2 ^ 32 → y.bucket < 2 ^ 32 → limit_json x ≡ limit_json y → x ≡ y
same_limit x y small_x small_y same =
    let bucket : x.bucket ≡ y.bucket = same_bucket x.bucket y.bucket small_x small_y (ap (λ d. text (field (codes "id") d)) same) in
    let name : x.name ≡ y.name = same_text x.name y.name (ap (field (codes "name")) same) in
    λ i. record { bucket = bucket i; name = name i }

abbrev limits_value : List ShownLimit → Data
limits_value limits = field (codes "buckets") (fields (limits_json version.V4 limits))

some_limits : (x : ShownLimit) (xs : List ShownLimit) → limits_value (x ∷ xs) ≡ list_of limit_json (x ∷ xs)
some_limits x xs = rw (eqb-suc-zero (length xs)) refl

all_limits : (xs ys : List ShownLimit) → All (λ l. l.bucket < 2 ^ 32) xs → All (λ l. l.bucket < 2 ^ 32) ys → limits_value xs ≡ limits_value ys → xs ≡ ys
all_limits [] [] first second same = refl
all_limits [] (y ∷ ys) first second same = absurd (false≢true (ap is_null (sym (same ∙ some_limits y ys))))
all_limits (x ∷ xs) [] first second same = absurd (false≢true (ap is_null (sym (some_limits x xs) ∙ same)))
all_limits (x ∷ xs) (y ∷ ys) first second same =
    let both = sym (some_limits x xs) ∙ same ∙ some_limits y ys in
    sym (map-id (x ∷ xs)) ∙ same_list limit_json (λ l. l) (λ l. l.bucket < 2 ^ 32) same_limit (x ∷ xs) (y ∷ ys) first second both ∙ map-id (y ∷ ys)

abbrev storage_at : ApiVersion → ShownAccount → Data
storage_at v a = storage_json (record a { version = v })

account_by_fields : (v : ApiVersion) (a b : ShownAccount) → IsAccount a → IsAccount b → a.account ≡ b.account → a.token ≡ b.token → a.end ≡ b.end
    → amount a.part_min ≡ amount b.part_min → string a.url ≡ string b.url → caps_json a.caps ≡ caps_json b.caps → unless_empty a.prefix ≡ unless_empty b.prefix
    → told_limits v a.buckets ≡ told_limits v b.buckets → told_account (record a { version = v }) ≡ told_account (record b { version = v })
account_by_fields v a b first second account token end parts urls caps prefixes buckets =
    let url : a.url ≡ b.url = ap text urls in
    let part : a.part_min ≡ b.part_min = ap count parts in
    let held : a.caps ≡ b.caps = same_caps a.caps b.caps first.caps second.caps caps in
    let prefix : a.prefix ≡ b.prefix = same_prefix a.prefix b.prefix prefixes in
    λ i. record {
      version = v;
      account = account i;
      token = token i;
      url = url i;
      part_min = part i;
      caps = held i;
      buckets = buckets i;
      prefix = prefix i;
      end = end i;
    }

account_by : (v w : ApiVersion) (a b : ShownAccount) → IsAccount a → IsAccount b → a.account ≡ b.account → a.token ≡ b.token → a.end ≡ b.end
    → storage_at v a ≡ storage_at w b → told_account (record a { version = v }) ≡ told_account (record b { version = w })
account_by version.V3 version.V4 a b first second account token end same = absurd (false≢true (ap is_third (sym same)))
account_by version.V4 version.V3 a b first second account token end same = absurd (false≢true (ap is_third same))
account_by version.V3 version.V3 a b first second account token end same =
    account_by_fields version.V3 a b first second account token end (ap (field (codes "absoluteMinimumPartSize")) same) (ap (field (codes "apiUrl")) same)
    (ap (field (codes "capabilities")) same) (ap (field (codes "namePrefix")) same)
    (first_limits a.buckets b.buckets first.buckets second.buckets (ap (field (codes "bucketId")) same) (ap (field (codes "bucketName")) same))
account_by version.V4 version.V4 a b first second account token end same =
    account_by_fields version.V4 a b first second account token end (ap (field (codes "absoluteMinimumPartSize")) same) (ap (field (codes "apiUrl")) same)
    (ap (field (codes "capabilities")) same) (ap (field (codes "namePrefix")) same)
    (all_limits a.buckets b.buckets first.buckets second.buckets (ap (field (codes "buckets")) same))

pub tells_account : (a b : ShownAccount) → IsAccount a → IsAccount b → account_json a ≡ account_json b → told_account a ≡ told_account b
tells_account a b first second same =
    let account : a.account ≡ b.account = ap (λ d. text (field (codes "accountId") d)) same in
    let token : a.token ≡ b.token = ap (λ d. text (field (codes "authorizationToken") d)) same in
    let end : a.end ≡ b.end = same_amount a.end b.end (ap (field (codes "applicationKeyExpirationTimestamp")) same) in
    account_by a.version b.version a b first second account token end (ap (λ d. field (codes "storageApi") (field (codes "apiInfo") d)) same)

keeps_account_with : (v : ApiVersion) (a : ShownAccount) (limits : List ShownLimit)
    → account_json (told_account (record a { version = v; buckets = limits })) ≡ account_json (record a { version = v; buckets = limits })
keeps_account_with version.V3 a [] = refl
keeps_account_with version.V3 a (x ∷ xs) = refl
keeps_account_with version.V4 a limits = refl

pub keeps_account : (a : ShownAccount) → account_json (told_account a) ≡ account_json a
keeps_account a = keeps_account_with a.version a a.buckets
