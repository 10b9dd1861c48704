-- A workload of not too many requests is a script.
use Rattle.std.proofs.Common.{◌≡◌, ℕ, zero, suc, ◌+◌, ◌*◌, ◌<◌, ◌≤◌, ◌^◌, List, [], ◌∷◌, ◌++◌, length, Ok, codes, decimal, refl, sym, ap, subst, append_assoc, arith}
use Rattle.std.proofs.lemmas.List.{length-append}
use Rattle.hex.specs.Hex.{encode_lower, lower_digits}
use Rattle.hex.proofs.HexLemmas.{length-encode_with}
use Rattle.b2_base.specs.Digits.{sixteen_digits}
use Rattle.b2_base.proofs.DigitsLemmas.{length-sixteen_digits}
use Rattle.event_script.specs.Line.{Line, reading, random, opening, piece, ready, stop, line_text}
use Rattle.event_script.specs.declared.script.Script.{Script}
use Rattle.event_script.specs.Script.{text_of, StopsOnce, ready_lines, IsScript, GivesScript, Says}
use Rattle.event_script.proofs.Fronts.{one_list}
use Rattle.workload.specs.Sequence.{next_number, drawn}
use Rattle.workload.specs.Requests.{authorize, create_bucket, get_upload_url, request}
use Rattle.workload.specs.Workload.{exchange, setup, turns_after, workload}
use Rattle.workload.proofs.Fits.{digits_short, request_plain, authorize_plain, create_plain, url_plain, all_fit}

-- ---- stop stands last

exchange_stops : (conn : ℕ) (bytes : List ℕ) (rest : List Line) → StopsOnce rest → StopsOnce (opening conn ∷ piece conn bytes ∷ ready conn ∷ rest)
exchange_stops conn bytes rest stops = (λ same. absurd (cc same), (λ same. absurd (cc same), (λ same. absurd (cc same), stops)))

stops_more : (x i n : ℕ) → StopsOnce (turns_after x i n ++ stop ∷ [])
stops_more x i zero = (λ same. refl, tt)
stops_more x i (suc n) =
    (λ same. absurd (cc same), exchange_stops (i + 1 + 3) (request (i + 1) (drawn (next_number x))) (turns_after (next_number x) (i + 1) n ++ stop ∷ []) (stops_more (next_number x) (i + 1) n))

stops_once : (seed n : ℕ) → StopsOnce (workload seed n)
stops_once seed n =
    let turns = turns_after seed 0 n ++ stop ∷ [] in
    let third = exchange_stops 3 get_upload_url turns (stops_more seed 0 n) in
    let second = exchange_stops 2 create_bucket (exchange 3 get_upload_url ++ turns) third in
    let first = exchange_stops 1 authorize (exchange 2 create_bucket ++ (exchange 3 get_upload_url ++ turns)) second in
    (λ same. absurd (cc same), (λ same. absurd (cc same), (λ same. absurd (cc same), (λ same. absurd (cc same), first))))

-- ---- how many lines say ready

ready_more : (x i n : ℕ) → ready_lines (turns_after x i n ++ stop ∷ []) ≡ n
ready_more x i zero = refl
ready_more x i (suc n) = ap (λ m. suc m) (ready_more (next_number x) (i + 1) n)

ready_all : (seed n : ℕ) → ready_lines (workload seed n) ≡ suc (suc (suc n))
ready_all seed n = ap (λ m. suc (suc (suc m))) (ready_more seed 0 n)

-- ---- how many bytes the text has

size_of : (line : Line) (rest : List Line) → length (text_of (line ∷ rest)) ≡ length (line_text line) + 1 + length (text_of rest)
size_of line rest =
    let whole = length-append (line_text line ++ 10 ∷ []) (text_of rest) in
    let one = length-append (line_text line) (10 ∷ []) in omega (arith, whole, one)

exchange_size : (conn : ℕ) (bytes : List ℕ) (rest : List Line) → conn < 2 ^ 32 → length bytes ≤ 1024 → length (text_of (opening conn ∷ piece conn bytes ∷ ready conn ∷ rest)) ≤ 2129 + length (text_of rest)
exchange_size conn bytes rest small few =
    let digits = digits_short conn (omega (arith, small)) in
    let first = length-append (codes "open ") (decimal conn) in
    let front = length-append (codes "piece ") (decimal conn) in
    let second = length-append (codes "piece " ++ decimal conn) (32 ∷ encode_lower bytes) in
    let hexes : length (encode_lower bytes) ≡ 2 * length bytes = length-encode_with lower_digits bytes in
    let third = length-append (codes "ready ") (decimal conn) in
    let one = size_of (opening conn) (piece conn bytes ∷ ready conn ∷ rest) in
    let two = size_of (piece conn bytes) (ready conn ∷ rest) in
    let three = size_of (ready conn) rest in
    omega (arith, digits, first, front, second, hexes, third, one, two, three, few)

-- the moment of a request
moment_size : (t : ℕ) (rest : List Line) → t < 2 ^ 32 → length (text_of (reading t ∷ rest)) ≤ 24 + length (text_of rest)
moment_size t rest small =
    let digits = digits_short t (omega (arith, small)) in
    let first = length-append (codes "at ") (decimal t) in
    let one = size_of (reading t) rest in omega (arith, digits, first, one)

word_size : (w : ℕ) (rest : List Line) → length (text_of (random w ∷ rest)) ≡ 22 + length (text_of rest)
word_size w rest =
    let digits = length-sixteen_digits w in
    let first = length-append (codes "word ") (sixteen_digits w) in
    let one = size_of (random w) rest in omega (arith, digits, first, one)

size_more : (x i n : ℕ) → i + n ≤ 16381 → length (text_of (turns_after x i n ++ stop ∷ [])) ≤ 2153 * n + 5
size_more x i zero few = omega arith
size_more x i (suc n) few =
    let later = turns_after (next_number x) (i + 1) n ++ stop ∷ [] in
    let bytes = request (i + 1) (drawn (next_number x)) in
    let short = (request_plain (i + 1) (drawn (next_number x)) (omega (arith, few))).short in
    let moment = moment_size (i + 1) (opening (i + 1 + 3) ∷ piece (i + 1 + 3) bytes ∷ ready (i + 1 + 3) ∷ later) (omega (arith, few)) in
    let here = exchange_size (i + 1 + 3) bytes later (omega (arith, few)) short in
    let rest = size_more (next_number x) (i + 1) n (omega (arith, few)) in
    omega (arith, moment, here, rest)

size_all : (seed n : ℕ) → n ≤ 16381 → length (text_of (workload seed n)) ≤ 67108864
size_all seed n few =
    let turns = turns_after seed 0 n ++ stop ∷ [] in
    let rest = size_more seed 0 n (omega (arith, few)) in
    let third = exchange_size 3 get_upload_url turns (omega arith) url_plain.short in
    let second = exchange_size 2 create_bucket (exchange 3 get_upload_url ++ turns) (omega arith) create_plain.short in
    let lines = exchange 1 authorize ++ (exchange 2 create_bucket ++ (exchange 3 get_upload_url ++ turns)) in
    let first = exchange_size 1 authorize (exchange 2 create_bucket ++ (exchange 3 get_upload_url ++ turns)) (omega arith) authorize_plain.short in
    let four = word_size 4 lines in
    let three = word_size 3 (random 4 ∷ lines) in
    let two = word_size 2 (random 3 ∷ random 4 ∷ lines) in
    let one = word_size 1 (random 2 ∷ random 3 ∷ random 4 ∷ lines) in
    omega (arith, rest, third, second, first, four, three, two, one, few)

pub is_script : (seed n : ℕ) → n ≤ 16381 → IsScript (workload seed n)
is_script seed n few =
    let ready = ready_all seed n in
    record {
      beginning = record { each = all_fit seed n (omega (arith, few)); order = stops_once seed n; ready = omega (arith, ready, few); size = size_all seed n few };
      ended = (setup ++ turns_after seed 0 n, sym (append_assoc setup (turns_after seed 0 n) (stop ∷ [])));
    }

-- what its text is read as
pub reads_so : (seed n : ℕ) (s : Script) → n ≤ 16381 → GivesScript (text_of (workload seed n)) (Ok s) → Says s (workload seed n)
reads_so seed n s few (lines, reads, says) = subst (Says s) (one_list (text_of (workload seed n)) lines (workload seed n) reads (is_script seed n few, refl)) says
