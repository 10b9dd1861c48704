-- What is kept of a head that was read.
use Rattle.std.specs.Prelude.{ℕ, List, ◌++◌, length, Option, Some, None}
use Rattle.std.specs.List.{flat_map}
use Rattle.http_header.specs.FieldValue.{FieldValue}
use Rattle.http_header.specs.HeaderMap.{Entries}
use Rattle.http_edge.specs.declared.head.Head.{Head}

-- the names of the headers and their values
abbrev pub header_bytes : Entries FieldValue → List ℕ
header_bytes headers = flat_map (λ e. e.0 ++ flat_map (λ (v : FieldValue). v.bytes) e.1) headers

-- its parts
abbrev pub head_bytes : Head → List ℕ
head_bytes h = h.request.method ++ (h.request.path ++ (h.request.query ++ header_bytes h.request.headers))

-- how many bytes they are
abbrev pub head_size : Option Head → ℕ
head_size None = 0
head_size (Some h) = length (head_bytes h)
