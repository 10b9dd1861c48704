-- The kinds of headers: what the bytes of a value are as each of them (the B2 reference, b2_upload_file and
-- b2_upload_part).
use Rattle.std.specs.Prelude.{ℕ, List, [], ◌∷◌, Bool, true, false, not, ◌&&◌, ◌||◌, ◌==◌, nat_lt, length, codes, slice_index, Option, Some, None, option_and_then, option_map, if◌then◌else◌, bytes_eq}
use Rattle.std.specs.Char.{is_ascii_hexdigit}
use Rattle.std.specs.Str.{is_utf8}
use Rattle.std.specs.Str.Parse.{digits_value}
use Rattle.hex.specs.Hex.{decode_sized}
use Rattle.b2_base.specs.Decimal.{has_digits}
use Rattle.json_shape.specs.Fields.{if_within}
use Rattle.name_rules.specs.Decode.{decoded_name}
use Rattle.b2_types.specs.declared.upload.DigestRule.{DigestRule}
use Rattle.b2_types.specs.declared.upload.DigestRule.TheVariants as digest
use Rattle.field_kinds.specs.declared.texts.TextRule.TheVariants as rule
use Rattle.field_kinds.specs.Kinds.{if_passes, is_file_name, passes, chosen, digest_of}

-- ---- texts with escapes

-- two hex digits stand in front of these bytes
abbrev pub has_digits_ahead : List ℕ → Bool
has_digits_ahead [] = false
has_digits_ahead (high ∷ []) = false
has_digits_ahead (high ∷ low ∷ rest) = is_ascii_hexdigit high && is_ascii_hexdigit low

-- two hex digits stand behind each percent sign
abbrev pub has_escapes : List ℕ → Bool
has_escapes [] = true
has_escapes (byte ∷ rest) = (not (byte == 37) || has_digits_ahead rest) && has_escapes rest

-- the text that the bytes stand for: a plus is a space, and an escape the byte that its digits are
abbrev pub escaped_text : List ℕ → Option (List ℕ)
escaped_text bytes = if has_escapes bytes then if_passes is_utf8 (decoded_name bytes) else None

abbrev pub file_name : List ℕ → Option (List ℕ)
file_name bytes = option_and_then (if_passes is_file_name) (escaped_text bytes)

-- ---- texts as they stand

abbrev pub content_type : List ℕ → Option (List ℕ)
content_type = if_passes (passes rule.ContentType)

abbrev pub hold : List ℕ → Option Bool
hold = chosen (codes "on") (codes "off")

-- 40 hex digits in any case, or one of two words
abbrev pub digest_rule : List ℕ → Option DigestRule
digest_rule bytes =
    if bytes_eq bytes (codes "hex_digits_at_end") then Some digest.AtEnd
    else if bytes_eq bytes (codes "do_not_verify") then Some digest.NotVerified
    else option_map (λ d. digest.Given d) (digest_of (decode_sized bytes 20))

-- ---- numbers

abbrev pub is_padded : List ℕ → Bool
is_padded text = nat_lt 1 (length text) && slice_index text 0 == 48

-- at most 19 decimal digits with no leading zero, but for 0 itself
abbrev pub is_plain : List ℕ → Bool
is_plain text = has_digits 19 text && not (is_padded text)

abbrev pub number_within : ℕ → ℕ → List ℕ → Option ℕ
number_within low high text = if is_plain text then if_within low high (digits_value 10 text) else None

-- a moment in milliseconds, up to the last
abbrev pub moment : List ℕ → Option ℕ
moment = number_within 0 253402300799999

abbrev pub part_number : List ℕ → Option ℕ
part_number = number_within 1 10000
