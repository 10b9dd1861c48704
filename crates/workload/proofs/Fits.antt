-- The lines of a workload are in their grammar.
use Rattle.std.proofs.Common.{◌≡◌, ℕ, zero, suc, ◌+◌, ◌/◌, ◌%◌, ◌^◌, ◌<◌, ◌≤◌, nat_lt, ◌==◌, cond, true, List, [], ◌∷◌, ◌++◌, length, codes, decimal, refl, arith}
use Rattle.std.specs.List.{concat, list_all, AllByRecursion}
use Rattle.std.specs.Str.{IsAscii}
use Rattle.std.proofs.lemmas.Bool.{and_parts, ltb-true, cond_both}
use Rattle.std.proofs.lemmas.Fmt.{IsAscii-decimal, length-decimal-le}
use Rattle.std.proofs.lemmas.List.{length-append}
use Rattle.std.proofs.lemmas.Nat.{mod_below}
use Rattle.std.proofs.lemmas.Str.{IsAscii-append}
use Rattle.std.proofs.lemmas.Str.Ascii.{IsAscii-nil, IsAscii-cons}
use Rattle.event_script.specs.Line.{Line, opening, piece, ready, stop, Fits, IsPiece}
use Rattle.workload.specs.Sequence.{next_number, drawn}
use Rattle.workload.specs.Requests.{account_token, upload_token, bucket, post, authorize, create_bucket, get_upload_url, upload, hide, list, file_name, request}
use Rattle.workload.specs.Workload.{exchange, turns_after, workload}
use Rattle.workload.proofs.Sizes.{post_short, upload_short, about_bucket, hide_short, list_short}

-- ---- texts

literal : (l : List ℕ) → list_all (λ b. nat_lt b 128) l ≡ true → IsAscii l
literal [] all = IsAscii-nil
literal (b ∷ l) all =
    let both = and_parts (nat_lt b 128) (list_all (λ c. nat_lt c 128) l) all in IsAscii-cons b l (ltb-true b 128 both.0) (literal l both.1)

parts_ascii : (parts : List (List ℕ)) → AllByRecursion IsAscii parts → IsAscii (concat parts)
parts_ascii [] each = IsAscii-nil
parts_ascii (part ∷ parts) each = IsAscii-append part (concat parts) each.0 (parts_ascii parts each.1)

-- a number below 2^64
pub digits_short : (n : ℕ) → n < 2 ^ 64 → length (decimal n) ≤ 20
digits_short n small = length-decimal-le 20 n (omega arith) (omega (arith, small)) small

-- a text, some bytes and not too many
pub record IsPlain (most : ℕ) (l : List ℕ) : Type 0 where
  pub ascii : IsAscii l
  pub some : 0 < length l
  pub short : length l ≤ most

-- ---- requests

post_plain : (call body : List ℕ) → IsAscii call → length call ≤ 64 → IsAscii body → length body ≤ 256 → IsPlain 1024 (post call body)
post_plain call body plain few text short =
    let small : length body < 2 ^ 64 = omega (arith, short) in
    let digits = decimal (length body) in
    let low = digits_short (length body) small in
    record {
      ascii = parts_ascii (codes "POST /b2api/v3/" ∷ call ∷ codes " HTTP/1.1\r\nAuthorization: " ∷ account_token ∷ codes "\r\nContent-Length: " ∷ digits ∷ codes "\r\n\r\n" ∷ body ∷ []) (
        literal (codes "POST /b2api/v3/") refl,
        (plain, (literal (codes " HTTP/1.1\r\nAuthorization: ") refl, (literal account_token refl, (literal (codes "\r\nContent-Length: ") refl, (IsAscii-decimal (length body) small, (literal (codes "\r\n\r\n") refl, (text, tt))))))),
      );
      some = omega arith;
      short = post_short call digits body (post call body) few (omega (arith, low)) short refl;
    }

upload_plain : (name content : List ℕ) → IsAscii name → length name ≤ 64 → IsAscii content → length content ≤ 64 → IsPlain 1024 (upload name content)
upload_plain name content plain few text short =
    let small : length content < 2 ^ 64 = omega (arith, short) in
    let digits = decimal (length content) in
    let low = digits_short (length content) small in
    let kinds = codes "\r\nContent-Type: text/plain\r\nX-Bz-Content-Sha1: do_not_verify\r\nContent-Length: " in
    record {
      ascii = parts_ascii (codes "POST /b2api/v3/b2_upload_file/" ∷ bucket ∷ codes " HTTP/1.1\r\nAuthorization: " ∷ upload_token ∷ codes "\r\nX-Bz-File-Name: " ∷ name ∷ kinds ∷ digits ∷ codes "\r\n\r\n" ∷ content ∷ []) (
        literal (codes "POST /b2api/v3/b2_upload_file/") refl,
        (
          literal bucket refl,
          (
            literal (codes " HTTP/1.1\r\nAuthorization: ") refl,
            (literal upload_token refl, (literal (codes "\r\nX-Bz-File-Name: ") refl, (plain, (literal kinds refl, (IsAscii-decimal (length content) small, (literal (codes "\r\n\r\n") refl, (text, tt))))))),
          ),
        ),
      );
      some = omega arith;
      short = upload_short name digits content (upload name content) few (omega (arith, low)) short refl;
    }

hide_plain : (name : List ℕ) → IsAscii name → length name ≤ 64 → IsPlain 1024 (hide name)
hide_plain name plain few =
    let parts = codes "{\"bucketId\":\"" ∷ bucket ∷ codes "\",\"fileName\":\"" ∷ name ∷ codes "\"}" ∷ [] in
    post_plain (codes "b2_hide_file") (concat parts) (literal (codes "b2_hide_file") refl) (omega arith)
    (parts_ascii parts (literal (codes "{\"bucketId\":\"") refl, (literal bucket refl, (literal (codes "\",\"fileName\":\"") refl, (plain, (literal (codes "\"}") refl, tt))))))
    (hide_short name (concat parts) few refl)

list_plain : (name : List ℕ) → IsAscii name → length name ≤ 64 → IsPlain 1024 (list name)
list_plain name plain few =
    let parts = codes "{\"bucketId\":\"" ∷ bucket ∷ codes "\",\"maxFileCount\":100,\"startFileName\":\"" ∷ name ∷ codes "\"}" ∷ [] in
    post_plain (codes "b2_list_file_names") (concat parts) (literal (codes "b2_list_file_names") refl) (omega arith)
    (parts_ascii parts (literal (codes "{\"bucketId\":\"") refl, (literal bucket refl, (literal (codes "\",\"maxFileCount\":100,\"startFileName\":\"") refl, (plain, (literal (codes "\"}") refl, tt))))))
    (list_short name (concat parts) few refl)

name_plain : (r : ℕ) → IsPlain 64 (file_name r)
name_plain r =
    let n = r / 4 % 1000 in
    let low : n < 1000 = mod_below (r / 4) 1000 (omega arith) in
    let small : n < 2 ^ 64 = omega (arith, low) in
    let few = digits_short n small in
    let size = length-append (codes "f") (decimal n) in
    record { ascii = IsAscii-append (codes "f") (decimal n) (literal (codes "f") refl) (IsAscii-decimal n small); some = omega (arith, size); short = omega (arith, size, few) }

pub request_plain : (i r : ℕ) → i < 2 ^ 64 → IsPlain 1024 (request i r)
request_plain i r small =
    let name = file_name r in
    let plain = name_plain r in
    let few = digits_short i small in
    cond_both (r % 4 == 2) (hide name) (cond (r % 4 == 3) (list name) (upload name (decimal i))) (IsPlain 1024) (λ is. hide_plain name plain.ascii plain.short)
    (λ is. cond_both (r % 4 == 3) (list name) (upload name (decimal i)) (IsPlain 1024) (λ also. list_plain name plain.ascii plain.short)
    (λ also. upload_plain name (decimal i) plain.ascii plain.short (IsAscii-decimal i small) (omega (arith, few))))

-- ---- lines

piece_of : (l : List ℕ) → IsPlain 1024 l → IsPiece l
piece_of l plain =
    let ascii = plain.ascii in
    let short = plain.short in
    record { each = λ k. let low = ascii k in omega (arith, low); some = plain.some; most = omega (arith, short) }

pub authorize_plain : IsPlain 1024 authorize
authorize_plain = record { ascii = literal authorize refl; some = omega arith; short = omega arith }

pub create_plain : IsPlain 1024 create_bucket
create_plain =
    let body = codes "{\"accountId\":\"a1b2c3d4e5f6\",\"bucketName\":\"workload\",\"bucketType\":\"allPrivate\"}" in
    post_plain (codes "b2_create_bucket") body (literal (codes "b2_create_bucket") refl) (omega arith) (literal body refl) (omega arith)

pub url_plain : IsPlain 1024 get_upload_url
url_plain =
    let body = concat (codes "{\"bucketId\":\"" ∷ bucket ∷ codes "\"}" ∷ []) in
    post_plain (codes "b2_get_upload_url") body (literal (codes "b2_get_upload_url") refl) (omega arith) (literal body refl) (about_bucket body refl)

-- a connection with one request
exchange_fits : (conn : ℕ) (bytes : List ℕ) (rest : List Line) → conn < 2 ^ 32 → IsPlain 1024 bytes → AllByRecursion Fits rest → AllByRecursion Fits (opening conn ∷ piece conn bytes ∷ ready conn ∷ rest)
exchange_fits conn bytes rest small plain fits = (small, ((small, piece_of bytes plain), (small, fits)))

each_fits : (x i n : ℕ) → i + n < 4294967293 → AllByRecursion Fits (turns_after x i n ++ stop ∷ [])
each_fits x i zero few = (tt, tt)
each_fits x i (suc n) few =
    let here : i + 1 + 3 < 2 ^ 32 = omega (arith, few) in
    let now : i + 1 < 2 ^ 64 = omega (arith, few) in
    let bytes = request (i + 1) (drawn (next_number x)) in
    (now, exchange_fits (i + 1 + 3) bytes (turns_after (next_number x) (i + 1) n ++ stop ∷ []) here (request_plain (i + 1) (drawn (next_number x)) now) (each_fits (next_number x) (i + 1) n (omega (arith, few))))

pub all_fit : (seed n : ℕ) → n < 4294967293 → AllByRecursion Fits (workload seed n)
all_fit seed n few =
    let turns = turns_after seed 0 n ++ stop ∷ [] in
    let rest = each_fits seed 0 n (omega (arith, few)) in
    let third = exchange_fits 3 get_upload_url turns (omega arith) url_plain rest in
    let second = exchange_fits 2 create_bucket (exchange 3 get_upload_url ++ turns) (omega arith) create_plain third in
    let first = exchange_fits 1 authorize (exchange 2 create_bucket ++ (exchange 3 get_upload_url ++ turns)) (omega arith) authorize_plain second in
    (omega arith, (omega arith, (omega arith, (omega arith, first))))
