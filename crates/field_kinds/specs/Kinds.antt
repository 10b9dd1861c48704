-- The kinds of fields: what a value of JSON is as each of them (the B2 reference, the requests of the calls).
use Rattle.std.specs.Prelude.{ℕ, List, [], ◌∷◌, ◌++◌, Bool, true, false, not, ◌&&◌, ◌||◌, ◌==◌, nat_le, length, take, drop, map, codes, Option, Some, None, option_and_then, option_map, if◌then◌else◌, bytes_eq, Result, Ok, Err}
use Rattle.std.specs.List.{list_all}
use Rattle.std.specs.Char.{is_ascii_alphanumeric, to_ascii_lowercase}
use Rattle.hex.specs.Hex.{decode_sized}
use Rattle.hex.specs.declared.error.FromHexError.{FromHexError}
use Rattle.serde_json.specs.Data.{Data, Items, no_items, item}
use Rattle.serde_json.specs.Find.{as_str, as_bool, as_array}
use Rattle.json_shape.specs.Fields.{field, number_within, object_alone}
use Rattle.b2_types.specs.declared.kinds.Mode.{Mode}
use Rattle.b2_types.specs.declared.kinds.Mode.TheVariants as mode
use Rattle.b2_types.specs.declared.kinds.Retention.{Retention}
use Rattle.b2_types.specs.declared.record.VersionId.{VersionId}
use Rattle.field_kinds.specs.declared.texts.TextRule.{TextRule}
use Rattle.field_kinds.specs.declared.texts.TextRule.TheVariants as rule
use Rattle.field_kinds.specs.Reader.{if_null}
use Rattle.field_kinds.specs.Spelled.{bucket_of, file_of}

-- the text, where it passes
abbrev pub if_passes : (List ℕ → Bool) → List ℕ → Option (List ℕ)
if_passes test text = if test text then Some text else None

abbrev pub text_that : (List ℕ → Bool) → Data → Option (List ℕ)
text_that test d = option_and_then (if_passes test) (as_str d)

abbrev pub text : Data → Option (List ℕ)
text = as_str

abbrev pub flag : Data → Option Bool
flag = as_bool

abbrev pub bucket_id : Data → Option ℕ
bucket_id d = option_and_then bucket_of (as_str d)

abbrev pub file_id : Data → Option VersionId
file_id d = option_and_then file_of (as_str d)

-- 6 to 63 letters, digits and hyphens, not `b2-` in front
abbrev pub is_bucket_byte : ℕ → Bool
is_bucket_byte byte = is_ascii_alphanumeric byte || byte == 45

abbrev pub is_bucket_name : List ℕ → Bool
is_bucket_name bytes =
    (nat_le 6 (length bytes) && nat_le (length bytes) 63)
    && (not (bytes_eq (map to_ascii_lowercase (take 3 bytes)) (codes "b2-")) && list_all is_bucket_byte bytes)

abbrev pub bucket_name : Data → Option (List ℕ)
bucket_name = text_that is_bucket_name

-- 1 to 1,024 bytes, without control codes
abbrev pub is_no_code : ℕ → Bool
is_no_code byte = nat_le 32 byte && not (byte == 127)

abbrev pub is_file_name : List ℕ → Bool
is_file_name bytes = (nat_le 1 (length bytes) && nat_le (length bytes) 1024) && list_all is_no_code bytes

abbrev pub file_name : Data → Option (List ℕ)
file_name = text_that is_file_name

-- one of two texts, the first of which says yes
abbrev pub chosen : List ℕ → List ℕ → List ℕ → Option Bool
chosen on off t = if bytes_eq t on then Some true else if bytes_eq t off then Some false else None

abbrev pub choice : List ℕ → List ℕ → Data → Option Bool
choice on off d = option_and_then (chosen on off) (as_str d)

abbrev pub bucket_type : Data → Option Bool
bucket_type = choice (codes "allPublic") (codes "allPrivate")

abbrev pub hold : Data → Option Bool
hold = choice (codes "on") (codes "off")

-- ---- texts with rules of their own

abbrev pub has_length : ℕ → ℕ → List ℕ → Bool
has_length low high t = nat_le low (length t) && nat_le (length t) high

-- a lower-case hex digit
abbrev pub is_digit : ℕ → Bool
is_digit byte = (nat_le 48 byte && nat_le byte 57) || (nat_le 97 byte && nat_le byte 102)

-- the account's id: 12 digits
abbrev pub is_account_id : List ℕ → Bool
is_account_id t = length t == 12 && list_all is_digit t

-- `001`, the account's id and ten digits of a number from 1 to 4294967295
abbrev pub is_long_id : List ℕ → Bool
is_long_id t =
    (length t == 25 && list_all is_digit t)
    && (bytes_eq (take 3 t) (codes "001") && bytes_eq (take 2 (drop 15 t)) (codes "00") && not (bytes_eq (take 8 (drop 17 t)) (codes "00000000")))

-- a character of ASCII, or a space
abbrev pub is_visible : ℕ → Bool
is_visible byte = nat_le 32 byte && nat_le byte 126

abbrev pub passes : TextRule → List ℕ → Bool
passes rule.KeyId t = is_account_id t || is_long_id t
passes rule.KeyName t = has_length 1 100 t && list_all is_bucket_byte t
passes rule.KeyPrefix t = has_length 0 1024 t
passes rule.Delimiter t = has_length 1 100 t
passes rule.ContentType t = has_length 1 255 t && list_all is_visible t

abbrev pub text_by : TextRule → Data → Option (List ℕ)
text_by rule = text_that (passes rule)

-- ---- lists

abbrev pub with_front : {X : Type 0} → List X → Option (List X) → Option (List X)
with_front front None = None
with_front front (Some rest) = Some (front ++ rest)

-- each item is of this kind
abbrev pub each_of : {X : Type 0} → (Data → Option X) → Items → Option (List X)
each_of kind no_items = Some []
each_of kind (item d ds) = option_and_then (λ x. with_front (x ∷ []) (each_of kind ds)) (kind d)

abbrev pub list_of : {X : Type 0} → (Data → Option X) → Data → Option (List X)
list_of kind d = option_and_then (each_of kind) (as_array d)

-- ---- digests and retentions

abbrev pub digest_of : Result (List ℕ) FromHexError → Option (List ℕ)
digest_of (Ok bytes) = Some bytes
digest_of (Err e) = None

-- 40 hex digits
abbrev pub digest : Data → Option (List ℕ)
digest d = option_and_then (λ t. digest_of (decode_sized t 20)) (as_str d)

abbrev pub mode_of : List ℕ → Option Mode
mode_of t = if bytes_eq t (codes "governance") then Some mode.Governance else if bytes_eq t (codes "compliance") then Some mode.Compliance else None

-- what stands at `mode`: none where it is null or `none`
abbrev pub mode_or_none : Data → Option (Option Mode)
mode_or_none d = if_null d (Some None) (option_and_then (λ t. if bytes_eq t (codes "none") then Some None else option_map Some (mode_of t)) (as_str d))

-- a moment in milliseconds, up to the last
abbrev pub moment : Data → Option ℕ
moment = number_within 0 253402300799999

abbrev pub until : Data → Option Mode → Option (Option Retention)
until d None = Some None
until d (Some mode) = option_map (λ t. Some (record { mode = mode; until = t })) (moment (field (codes "retainUntilTimestamp") d))

-- a mode, and where it is one the moment until which it holds
abbrev pub retention : Data → Option (Option Retention)
retention d = option_and_then (λ d. option_and_then (until d) (mode_or_none (field (codes "mode") d))) (object_alone d)
