-- The parts of a head are no longer than it.
use Rattle.std.proofs.Common.{◌≡◌, ℕ, ◌+◌, ◌≤◌, ◌==◌, Bool, bytes_eq, List, [], ◌∷◌, ◌++◌, length, map, filter, fold, reverse, ap, ◌∙◌, append-nil, append_assoc, arith}
use Rattle.std.specs.Char.{to_ascii_lowercase}
use Rattle.std.specs.List.{flat_map, position_or_len}
use Rattle.std.proofs.lemmas.Bool.{cond_both}
use Rattle.std.proofs.lemmas.List.{length-append, length-take, length-drop, length-map, length-reverse}
use Rattle.std.proofs.lemmas.List.Concat.{flat_map-append}
use Rattle.httparse.specs.Grammar.{Field, print_field, print_blank, print_version, print_end, print_section, field_value, is_ows, skip_ows, trim_ows, RequestHead}
use Rattle.httparse.proofs.GrammarLemmas.{print_request-append, cons-append}
use Rattle.http_header.specs.FieldValue.{FieldValue, plain_value}
use Rattle.http_header.specs.HeaderMap.{Entries, append}
use Rattle.http_header.specs.Token.{lowercase}
use Rattle.wire_forms.specs.declared.request.Request.{Request}
use Rattle.call_paths.specs.declared.routes.Route.{Route}
use Rattle.http_edge.specs.Headers.{is_read, path_of, query_of, headers_of}
use Rattle.http_edge.specs.Request.{IsRequest}
use Rattle.conn_talk.specs.Asked.{head_of}
use Rattle.conn_table.specs.Heads.{header_bytes, head_bytes}

-- ---- headers

-- one value more
append_size : (headers : Entries FieldValue) (name : List ℕ) (value : FieldValue) → length (header_bytes (append headers name value)) ≤ length (header_bytes headers) + length name + length value.bytes
append_size [] name value =
    let one = length-append name (value.bytes ++ []) in
    let same = ap length (append-nil value.bytes) in
    let all = length-append (name ++ (value.bytes ++ [])) [] in omega (arith, one, same, all)
append_size (e ∷ headers) name value =
    let more = e.1 ++ value ∷ [] in
    let values = flat_map (λ (v : FieldValue). v.bytes) in
    let was = length-append (e.0 ++ values e.1) (header_bytes headers) in
    let first = length-append e.0 (values e.1) in
    let P : Entries FieldValue → Type 0 = λ hs. length (header_bytes hs) ≤ length (header_bytes (e ∷ headers)) + length name + length value.bytes in
    let longer : length (values more) ≡ length (values e.1) + length value.bytes =
    ap length (flat_map-append (λ (v : FieldValue). v.bytes) e.1 (value ∷ [])) ∙ length-append (values e.1) (value.bytes ++ []) ∙ ap (λ l. length (values e.1) + length l) (append-nil value.bytes) in
    let now = length-append (e.0 ++ values more) (header_bytes headers) in
    let here = length-append e.0 (values more) in
    let later = length-append (e.0 ++ values e.1) (header_bytes (append headers name value)) in
    let rest = append_size headers name value in
    cond_both (bytes_eq e.0 name) ((e.0, more) ∷ headers) (e ∷ append headers name value) P (λ is. omega (arith, was, first, longer, now, here)) (λ is. omega (arith, was, first, later, rest))

-- the bytes of names and values
abbrev pair_bytes : List (List ℕ × List ℕ) → List ℕ
pair_bytes pairs = flat_map (λ (p : List ℕ × List ℕ). p.0 ++ p.1) pairs

abbrev with_pair : Entries FieldValue → (List ℕ × List ℕ) → Entries FieldValue
with_pair headers pair = append headers (lowercase pair.0) (plain_value pair.1)

fold_size : (pairs : List (List ℕ × List ℕ)) (headers : Entries FieldValue) → length (header_bytes (fold with_pair headers pairs)) ≤ length (header_bytes headers) + length (pair_bytes pairs)
fold_size [] headers = omega arith
fold_size (pair ∷ pairs) headers =
    let first = append_size headers (lowercase pair.0) (plain_value pair.1) in
    let same : length (lowercase pair.0) ≡ length pair.0 = length-map pair.0 to_ascii_lowercase in
    let rest = fold_size pairs (with_pair headers pair) in
    let size = length-append (pair.0 ++ pair.1) (pair_bytes pairs) in
    let one = length-append pair.0 pair.1 in omega (arith, first, same, rest, size, one)

filter_size : (p : (List ℕ × List ℕ) → Bool) (pairs : List (List ℕ × List ℕ)) → length (pair_bytes (filter p pairs)) ≤ length (pair_bytes pairs)
filter_size p [] = omega arith
filter_size p (pair ∷ pairs) =
    let rest = filter_size p pairs in
    let kept = length-append (pair.0 ++ pair.1) (pair_bytes (filter p pairs)) in
    let size = length-append (pair.0 ++ pair.1) (pair_bytes pairs) in
    let P : List (List ℕ × List ℕ) → Type 0 = λ l. length (pair_bytes l) ≤ length (pair_bytes (pair ∷ pairs)) in
    cond_both (p pair) (pair ∷ filter p pairs) (filter p pairs) P (λ is. omega (arith, rest, kept, size)) (λ is. omega (arith, rest, size))

skip_short : (l : List ℕ) → length (skip_ows l) ≤ length l
skip_short [] = omega arith
skip_short (b ∷ l) =
    let rest = skip_short l in
    let P : List ℕ → Type 0 = λ x. length x ≤ length (b ∷ l) in
    cond_both (is_ows b) (skip_ows l) (b ∷ l) P (λ is. omega (arith, rest)) (λ is. omega arith)

trim_short : (l : List ℕ) → length (trim_ows l) ≤ length l
unfolding trim_ows
trim_short l =
    let front = skip_short l in
    let turned = length-reverse (skip_ows l) in
    let back = skip_short (reverse (skip_ows l)) in
    let again = length-reverse (skip_ows (reverse (skip_ows l))) in omega (arith, front, turned, back, again)

field_text : (f : Field) → print_field f ≡ f.name ++ (58 ∷ (f.raw ++ print_end f.end))
field_text f = regroup f.name f.raw (print_end f.end)
  where
    regroup : (a b c : List ℕ) → a ++ 58 ∷ b ++ c ≡ a ++ (58 ∷ (b ++ c))
    regroup a b c = simp (append_assoc, cons-append)

-- the fields, each with its colon and its end
abbrev as_pair : Field → List ℕ × List ℕ
as_pair f = (f.name, field_value f)

fields_size : (fields : List Field) → length (pair_bytes (map as_pair fields)) ≤ length (flat_map print_field fields)
fields_size [] = omega arith
fields_size (f ∷ fields) =
    let rest = fields_size fields in
    let short = trim_short f.raw in
    let pair = length-append f.name (field_value f) in
    let all = length-append (f.name ++ field_value f) (pair_bytes (map as_pair fields)) in
    let printed = length-append (print_field f) (flat_map print_field fields) in
    let line : length (print_field f) ≡ length f.name + (1 + (length f.raw + length (print_end f.end))) =
    ap length (field_text f) ∙ length-append f.name (58 ∷ (f.raw ++ print_end f.end)) ∙ ap (λ n. length f.name + n) (omega (arith, length-append f.raw (print_end f.end))) in
    omega (arith, rest, short, pair, all, printed, line)

headers_size : (h : RequestHead) → length (header_bytes (headers_of h)) ≤ length (flat_map print_field h.fields)
headers_size h =
    let pairs = map as_pair h.fields in
    let test : (List ℕ × List ℕ) → Bool = λ pair. is_read (lowercase pair.0) in
    let folded = fold_size (filter test pairs) [] in
    let fewer = filter_size test pairs in
    let printed = fields_size h.fields in omega (arith, folded, fewer, printed)

-- ---- the whole head

-- what is kept of a head that was read stands in these bytes
pub head_within : (before : ℕ) (front : List ℕ) (r : Request) (route : Route) → IsRequest front r route → length (head_bytes (head_of before r route)) ≤ length front
head_within before front r route (h, ((is, text), few), for, r_is) =
    let size = ap (λ (x : Request). length (head_bytes (head_of before x route))) r_is in
    let path = path_of h in
    let query = query_of h in
    let headers = header_bytes (headers_of h) in
    let cut = position_or_len (λ b. b == 63) h.target in
    let path_size = length-take cut h.target in
    let query_size = length-drop (cut + 1) h.target in
    let one = length-append h.method (path ++ (query ++ headers)) in
    let two = length-append path (query ++ headers) in
    let three = length-append query headers in
    let within = headers_size h in
    let rest5 = print_end h.line_end ++ (print_section h.fields h.last ++ []) in
    let rest4 = print_version h.minor ++ rest5 in
    let rest2 = h.target ++ (32 ∷ rest4) in
    let whole = ap length (text ∙ print_request-append h []) in
    let a = length-append (print_blank h.blank) (h.method ++ (32 ∷ rest2)) in
    let b = length-append h.method (32 ∷ rest2) in
    let c = length-append h.target (32 ∷ rest4) in
    let d = length-append (print_version h.minor) rest5 in
    let e = length-append (print_end h.line_end) (print_section h.fields h.last ++ []) in
    let f = length-append (print_section h.fields h.last) [] in
    let g = length-append (flat_map print_field h.fields) (print_end h.last) in
    omega (arith, size, path_size, query_size, one, two, three, within, whole, a, b, c, d, e, f, g)
