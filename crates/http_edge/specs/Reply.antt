-- The bytes that answer a request: a head (RFC 9112, sections 4 to 6 and 9.3; RFC 9110, sections 14.4 and
-- 15), and a body of JSON or the content that was asked for.
use Rattle.std.specs.Prelude.{ℕ, ◌+◌, ◌-◌, Bool, List, [], ◌∷◌, ◌++◌, if◌then◌else◌, length, take, drop, Option, Some, None, unwrap_or, option_map, codes, decimal}
use Rattle.std.specs.List.{flat_map}
use Rattle.serde_json.specs.Written.{compact_text}
use Rattle.b2_base.specs.FileId.{file_id}
use Rattle.name_rules.specs.Escape.{encoded_name}
use Rattle.b2_types.specs.declared.answer.AnswerOf.{AnswerOf}
use Rattle.b2_types.specs.declared.answer.AnswerOf.TheVariants as answer
use Rattle.b2_types.specs.declared.answer.ContentOf.{ContentOf}
use Rattle.b2_types.specs.declared.answer.Span.{Span}
use Rattle.b2_types.specs.declared.shown.ShownFile.{ShownFile}
use Rattle.b2_types.specs.Answer.{status_line}
use Rattle.b2_types.specs.FaultTable.{Status}
use Rattle.wire_forms.specs.Body.{body_of, refusal_json, digest_text}

abbrev pub line_end : List ℕ
line_end = 13 ∷ 10 ∷ []

-- ---- the head

abbrev pub status_text : Status → List ℕ
status_text status = codes "HTTP/1.1 " ++ decimal status.number ++ codes " " ++ status.reason ++ line_end

-- what is said of a body of JSON of this length
abbrev pub json_headers : ℕ → List ℕ
json_headers len =
    codes "Content-Type: application/json;charset=utf-8" ++ line_end
    ++ codes "Content-Length: " ++ decimal len ++ line_end

-- which bytes of a content of this length are sent, where a range was asked for
abbrev pub range_header : ℕ → Option Span → List ℕ
range_header length None = []
range_header length (Some span) =
    codes "Content-Range: bytes " ++ decimal span.at ++ codes "-" ++ decimal (span.at + span.len - 1) ++ codes "/" ++ decimal length ++ line_end

abbrev pub info_header : List ℕ × List ℕ → List ℕ
info_header pair = codes "X-Bz-Info-" ++ pair.0 ++ codes ": " ++ encoded_name pair.1 ++ line_end

abbrev pub digest_header : ShownFile → List ℕ
digest_header f = unwrap_or (option_map digest_text f.digest) (codes "none")

-- what is said of the file
abbrev pub file_headers : ShownFile → List ℕ
file_headers f =
    codes "X-Bz-File-Id: " ++ file_id f.bucket f.num ++ line_end
    ++ codes "X-Bz-File-Name: " ++ encoded_name f.name ++ line_end
    ++ codes "X-Bz-Content-Sha1: " ++ digest_header f ++ line_end
    ++ codes "X-Bz-Upload-Timestamp: " ++ decimal f.stamp ++ line_end
    ++ flat_map info_header f.info

-- what is said of a content, of which so many bytes are sent
abbrev pub content_headers : {C : Type 0} → ContentOf C → ℕ → List ℕ
content_headers c len =
    codes "Content-Type: " ++ unwrap_or c.file.kind [] ++ line_end
    ++ codes "Content-Length: " ++ decimal len ++ line_end
    ++ range_header c.file.length c.range
    ++ codes "Accept-Ranges: bytes" ++ line_end
    ++ file_headers c.file

abbrev pub body_headers : {C : Type 0} → AnswerOf C → ℕ → List ℕ
body_headers (answer.Json shown) len = json_headers len
body_headers (answer.Content c) len = content_headers c len
body_headers (answer.Refused fault) len = json_headers len

-- whether the connection stays open after the reply
abbrev pub connection_header : Bool → List ℕ
connection_header stay = codes "Connection: " ++ (if stay then codes "keep-alive" else codes "close") ++ line_end

-- the head of the reply to an answer, whose body has this length
abbrev pub reply_head : {C : Type 0} → AnswerOf C → ℕ → Bool → List ℕ
reply_head answer len stay = status_text (status_line answer) ++ body_headers answer len ++ connection_header stay ++ line_end

-- ---- the body

-- the range of a content, or all of it
abbrev pub in_range : Option Span → List ℕ → List ℕ
in_range None bytes = bytes
in_range (Some span) bytes = take span.len (drop span.at bytes)

-- the compact JSON text of what the answer says, or the bytes of the content
abbrev pub reply_body : AnswerOf (List ℕ) → List ℕ
reply_body (answer.Json shown) = compact_text (body_of shown)
reply_body (answer.Content c) = in_range c.range (flat_map (λ piece. piece) c.content)
reply_body (answer.Refused fault) = compact_text (refusal_json fault)

-- the bytes that answer
abbrev pub reply_of : AnswerOf (List ℕ) → Bool → List ℕ
reply_of answer stay = reply_head answer (length (reply_body answer)) stay ++ reply_body answer
