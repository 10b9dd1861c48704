-- What the head of a request says (RFC 9112, sections 2 to 5).
use Rattle.std.specs.Prelude.{ℕ, ◌≤◌, ◌==◌, Bool, ◌||◌, List, [], ◌∷◌, length, take, map, filter, fold, codes, bytes_eq}
use Rattle.std.specs.List.{before_first, after_first, list_any}
use Rattle.std.specs.Option.{is_some}
use Rattle.httparse.specs.Grammar.{RequestHead, ReadsRequest, field_value}
use Rattle.http_header.specs.FieldValue.{FieldValue, plain_value}
use Rattle.http_header.specs.HeaderMap.{Entries, append, get}
use Rattle.http_header.specs.Token.{lowercase}

-- the most fields of a head
abbrev pub most_fields : ℕ
most_fields = 64

-- the bytes, all of them, are this head
abbrev pub IsHead : List ℕ → RequestHead → Type 0
IsHead bytes h = ReadsRequest bytes h [] × (length h.fields ≤ most_fields)

-- the bytes are a head
abbrev pub HasHead : List ℕ → Type 0
HasHead bytes = (h : RequestHead) × IsHead bytes h

-- the path: the target before its first question mark
abbrev pub path_of : RequestHead → List ℕ
path_of h = before_first (λ b. b == 63) h.target

-- the query: the target after it
abbrev pub query_of : RequestHead → List ℕ
query_of h = after_first (λ b. b == 63) h.target

-- the headers that calls read are B2's own, whose names begin with x-bz- in any case, and these, here in
-- lower case; all others are ignored
abbrev pub read_names : List (List ℕ)
read_names = codes "authorization" ∷ codes "connection" ∷ codes "content-length" ∷ codes "content-type" ∷ codes "range" ∷ codes "transfer-encoding" ∷ []

abbrev pub is_read : List ℕ → Bool
is_read name = bytes_eq (take 5 name) (codes "x-bz-") || list_any (bytes_eq name) read_names

-- the value of a field that calls read, without the white space around it, stands after those of its name
abbrev pub headers_by : List (List ℕ × List ℕ) → Entries FieldValue
headers_by pairs = fold (λ headers pair. append headers (lowercase pair.0) (plain_value pair.1)) [] (filter (λ pair. is_read (lowercase pair.0)) pairs)

abbrev pub headers_of : RequestHead → Entries FieldValue
headers_of h = headers_by (map (λ field. (field.name, field_value field)) h.fields)

-- a header of this name, which is given in lower case, stands
abbrev pub is_given : List ℕ → Entries FieldValue → Bool
is_given name headers = is_some (get headers name)
