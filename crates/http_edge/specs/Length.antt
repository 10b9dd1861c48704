-- How long the body of a request is (RFC 9112, section 6; RFC 9110, section 8.6).
use Rattle.std.specs.Prelude.{ℕ, ◌+◌, nat_le, Bool, true, false, not, ◌&&◌, ◌||◌, List, [], ◌∷◌, Option, Some, None, if◌then◌else◌, codes, bytes_eq}
use Rattle.std.specs.Str.Parse.{digits_value}
use Rattle.http_header.specs.FieldValue.{FieldValue}
use Rattle.http_header.specs.HeaderMap.{Entries, get, get_all}
use Rattle.b2_base.specs.Decimal.{has_digits}
use Rattle.rule_table.specs.declared.call.CallName.{CallName}
use Rattle.rule_table.specs.declared.call.CallName.TheVariants.{UploadFile, UploadPart}
use Rattle.http_edge.specs.Headers.{is_given}

-- the most digits of a length
abbrev pub most_digits : ℕ
most_digits = 19

-- the most bytes of a JSON body
abbrev pub most_json : ℕ
most_json = 1048576

-- the most bytes of a content
abbrev pub most_content : ℕ
most_content = 5000000000

-- the hex digits of a digest that stands after a content
abbrev pub digest_len : ℕ
digest_len = 40

-- the values of Content-Length, in their order
abbrev pub lengths : Entries FieldValue → List FieldValue
lengths headers = get_all headers (codes "content-length")

-- none, or one that is a length
abbrev pub are_lengths : List FieldValue → Bool
are_lengths [] = true
are_lengths (value ∷ []) = has_digits most_digits value.bytes
are_lengths (value ∷ other ∷ more) = false

-- the length that they give: 0 where there is none
abbrev pub told_length : List FieldValue → ℕ
told_length [] = 0
told_length (value ∷ more) = digits_value 10 value.bytes

abbrev pub is_upload : CallName → Bool
is_upload UploadFile = true
is_upload UploadPart = true
is_upload other = false

abbrev pub says_last : Option FieldValue → Bool
says_last None = false
says_last (Some value) = bytes_eq value.bytes (codes "hex_digits_at_end")

-- the content's digest stands after the content: so says the first X-Bz-Content-Sha1
abbrev pub has_digest_last : Entries FieldValue → Bool
has_digest_last headers = says_last (get headers (codes "x-bz-content-sha1"))

-- the least and the most bytes of a body: an upload has its content, and the digest after it
abbrev pub least_body : CallName → Entries FieldValue → ℕ
least_body name headers = if is_upload name && has_digest_last headers then digest_len else 0

abbrev pub most_body : CallName → Entries FieldValue → ℕ
most_body name headers = if is_upload name then (if has_digest_last headers then most_content + digest_len else most_content) else most_json

-- the length is amiss: one of these holds
abbrev pub is_bad_length : CallName → Entries FieldValue → Bool
is_bad_length name headers =
    is_given (codes "transfer-encoding") headers
    || not (are_lengths (lengths headers))
    || (is_upload name && not (is_given (codes "content-length") headers))
    || not (nat_le (least_body name headers) (told_length (lengths headers)))
    || not (nat_le (told_length (lengths headers)) (most_body name headers))
