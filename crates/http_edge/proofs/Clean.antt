-- The headers of a head are clean, and so is their number.
use Rattle.std.proofs.Common.{◌≡◌, ℕ, ◌<◌, ◌≤◌, ◌+◌, Bool, true, false, cond, List, [], ◌∷◌, ◌++◌, length, take, get_or, map, filter, fold, bytes_eq, refl, sym, ap, ◌∙◌, subst, IsTrue, arith}
use Rattle.std.specs.Str.{IsUtf8}
use Rattle.std.proofs.lemmas.Str.{IsUtf8-from_ascii}
use Rattle.std.proofs.lemmas.Str.Ascii.{IsAscii-from_all}
use Rattle.std.proofs.lemmas.List.Sums.{sum_by-cons, length-filter, count_by-le-length, fold-append}
use Rattle.std.specs.List.{All}
use Rattle.std.proofs.lemmas.List.{length-append, length-map, length-take, map-append, take_more}
use Rattle.std.proofs.lemmas.List.Elements.{All-nil, All-cons, All-head, All-tail, All-weaker, filter-append}
use Rattle.http_header.specs.HeaderMap.{Entries, append, value_count}
use Rattle.http_header.proofs.TokenLemmas.{token_byte_range}
use Rattle.httparse.specs.Grammar.{Field, IsField, IsToken, is_token_byte, is_value_byte}
use Rattle.httparse.specs.Spans.{header_bytes, name_and_value}
use Rattle.httparse.specs.declared.spans.HeaderSpan.{HeaderSpan}
use Rattle.httparse.proofs.TrimLemmas.{AllPass-trim_ows}
use Rattle.http_header.specs.Token as token
use Rattle.http_header.specs.FieldValue.{FieldValue, plain_value}
use Rattle.http_header.specs.Token.{lowercase}
use Rattle.http_edge.specs.Steps.{IsClean}
use Rattle.http_edge.specs.Headers.{is_read, headers_by}

-- the two ports have the same bytes of a token
same_byte : (b : ℕ) → is_token_byte b ≡ token.is_token_byte b
unfolding is_token_byte token.is_token_byte
same_byte b = refl

abbrev IsCleanPair : List ℕ × List ℕ → Type 0
IsCleanPair pair = token.IsToken pair.0 × token.AllPass token.is_value_byte pair.1

clean_field : (f : Field) → IsField f → IsCleanPair (name_and_value f)
clean_field f is = ((is.name.0, λ i d within. subst IsTrue (same_byte _) (is.name.1 i d within)), AllPass-trim_ows is_value_byte f.raw is.raw)

pub clean_spans : (bytes : List ℕ) (spans : List HeaderSpan) (fields : List Field) → map (header_bytes bytes) spans ≡ map name_and_value fields → All IsField fields → All (IsClean bytes) spans
clean_spans bytes [] fields same is = All-nil (IsClean bytes)
clean_spans bytes (span ∷ spans) [] same is = absurd (cc same)
clean_spans bytes (span ∷ spans) (field ∷ fields) same is =
    All-cons (IsClean bytes) span spans
    (subst IsCleanPair (sym (cc same)) (clean_field field (All-head IsField field fields is)))
    (clean_spans bytes spans fields (cc same) (All-tail IsField field fields is))

-- a method is text
pub token_text : (bytes : List ℕ) → IsToken bytes → IsUtf8 bytes
token_text bytes is = IsUtf8-from_ascii bytes (IsAscii-from_all bytes (All-weaker (λ b. IsTrue (is_token_byte b)) (λ b. b < 128) (λ b t. omega (arith, (token_byte_range b (subst IsTrue (same_byte b) t)).1)) bytes is.1))

-- ---- how many there are

module _ {X : Type 0} where
  pub names-append : (m : Entries X) (name : List ℕ) (value : X) → length (append m name value) ≤ length m + 1
  names-append [] name value = omega arith
  names-append (e ∷ m) name value =
      let later = names-append m name value in
      elim (bytes_eq e.0 name) as (λ t. length (cond t ((e.0, e.1 ++ value ∷ []) ∷ m) (e ∷ append m name value)) ≤ length (e ∷ m) + 1) [ true ↦ omega arith | false ↦ omega (arith, later) ]

  count_cons : (e : List ℕ × List X) (m : Entries X) → value_count (e ∷ m) ≡ length e.1 + value_count m
  count_cons e m = sum_by-cons (λ (x : List ℕ × List X). length x.1) e m

  pub values-append : (m : Entries X) (name : List ℕ) (value : X) → value_count (append m name value) ≡ value_count m + 1
  values-append [] name value = refl
  values-append (e ∷ m) name value =
      let later = values-append m name value in
      let old = count_cons e m in
      let there = count_cons (e.0, e.1 ++ value ∷ []) m in
      let more = length-append e.1 (value ∷ []) in
      let after = count_cons e (append m name value) in
      elim (bytes_eq e.0 name) as (λ t. value_count (cond t ((e.0, e.1 ++ value ∷ []) ∷ m) (e ∷ append m name value)) ≡ value_count (e ∷ m) + 1)
      [ true ↦ omega (arith, old, there, more) | false ↦ omega (arith, old, after, later) ]

abbrev with_pair : Entries FieldValue → List ℕ × List ℕ → Entries FieldValue
with_pair m pair = append m (lowercase pair.0) (plain_value pair.1)

names_from : (m : Entries FieldValue) (pairs : List (List ℕ × List ℕ)) → length (fold with_pair m pairs) ≤ length m + length pairs
names_from m [] = omega arith
names_from m (pair ∷ pairs) =
    let first = names-append m (lowercase pair.0) (plain_value pair.1) in
    let others = names_from (with_pair m pair) pairs in
    omega (arith, first, others)

values_from : (m : Entries FieldValue) (pairs : List (List ℕ × List ℕ)) → value_count (fold with_pair m pairs) ≤ value_count m + length pairs
values_from m [] = omega arith
values_from m (pair ∷ pairs) =
    let first = values-append m (lowercase pair.0) (plain_value pair.1) in
    let others = values_from (with_pair m pair) pairs in
    omega (arith, first, others)

-- the next of them: it stands after those of its name where calls read it, and is passed over elsewhere
abbrev with_read : Entries FieldValue → List ℕ × List ℕ → Entries FieldValue
with_read m pair = cond (is_read (lowercase pair.0)) (with_pair m pair) m

headers-push : (pairs : List (List ℕ × List ℕ)) (pair : List ℕ × List ℕ) → headers_by (pairs ++ pair ∷ []) ≡ with_read (headers_by pairs) pair
headers-push pairs pair =
    let test : List ℕ × List ℕ → Bool = λ p. is_read (lowercase p.0) in
    ap (fold with_pair []) (filter-append test pairs (pair ∷ [])) ∙ fold-append with_pair [] (filter test pairs) (filter test (pair ∷ []))
    ∙ elim (is_read (lowercase pair.0)) as (λ t. fold with_pair (headers_by pairs) (cond t (pair ∷ []) []) ≡ cond t (with_pair (headers_by pairs) pair) (headers_by pairs)) [ true ↦ refl | false ↦ refl ]

pub next_header : (bytes : List ℕ) (spans : List HeaderSpan) (i : ℕ) (d : HeaderSpan) → i < length spans
    → headers_by (map (header_bytes bytes) (take (i + 1) spans)) ≡ with_read (headers_by (map (header_bytes bytes) (take i spans))) (header_bytes bytes (get_or spans i d))
next_header bytes spans i d within =
    ap (λ l. headers_by (map (header_bytes bytes) l)) (take_more spans i d within) ∙ ap headers_by (map-append (header_bytes bytes) (take i spans) (get_or spans i d ∷ []))
    ∙ headers-push (map (header_bytes bytes) (take i spans)) (header_bytes bytes (get_or spans i d))

-- there is room for one more
pub room_left : (bytes : List ℕ) (spans : List HeaderSpan) (i : ℕ) (headers : Entries FieldValue) → i < 64 → headers ≡ headers_by (map (header_bytes bytes) (take i spans))
    → (length headers < 64) × (value_count headers < 64)
room_left bytes spans i headers few is =
    let pairs = map (header_bytes bytes) (take i spans) in
    let kept = filter (λ pair. is_read (lowercase pair.0)) pairs in
    let names = names_from [] kept in
    let values = values_from [] kept in
    let fewer = count_by-le-length (λ (pair : List ℕ × List ℕ). is_read (lowercase pair.0)) pairs in
    let counted = length-filter (λ (pair : List ℕ × List ℕ). is_read (lowercase pair.0)) pairs in
    let many = length-map (take i spans) (header_bytes bytes) in
    let short = length-take i spans in
    rw is (omega (arith, few, names, counted, fewer, many, short), omega (arith, few, values, counted, fewer, many, short))
