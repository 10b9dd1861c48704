-- How long the requests are.
use Rattle.std.proofs.Common.{◌≡◌, ℕ, ◌+◌, ◌≤◌, List, [], ◌∷◌, length, codes, refl, ap, ◌∙◌, arith}
use Rattle.std.specs.List.{concat}
use Rattle.std.proofs.lemmas.List.{length-append}
use Rattle.workload.specs.Requests.{account_token, upload_token, bucket}

abbrev total : List (List ℕ) → ℕ
total [] = 0
total (part ∷ parts) = length part + total parts

length_concat : (parts : List (List ℕ)) → length (concat parts) ≡ total parts
length_concat [] = refl
length_concat (part ∷ parts) = length-append part (concat parts) ∙ ap (λ n. length part + n) (length_concat parts)

-- a call with a body, whose length these digits say
abbrev pub post_of : List ℕ → List ℕ → List ℕ → List ℕ
post_of call digits body = concat (
    codes "POST /b2api/v3/" ∷ call
    ∷ codes " HTTP/1.1\r\nAuthorization: " ∷ account_token
    ∷ codes "\r\nContent-Length: " ∷ digits
    ∷ codes "\r\n\r\n" ∷ body ∷ [])

pub post_short : (call digits body v : List ℕ) → length call ≤ 64 → length digits ≤ 40 → length body ≤ 256 → v ≡ post_of call digits body → length v ≤ 1024
post_short call digits body v one two three is =
    let parts = codes "POST /b2api/v3/" ∷ call ∷ codes " HTTP/1.1\r\nAuthorization: " ∷ account_token ∷ codes "\r\nContent-Length: " ∷ digits ∷ codes "\r\n\r\n" ∷ body ∷ [] in
    let size : length v ≡ 15 + (length call + (26 + (61 + (18 + (length digits + (4 + (length body + 0))))))) = ap length is ∙ length_concat parts in
    omega (arith, size, one, two, three)

abbrev pub upload_of : List ℕ → List ℕ → List ℕ → List ℕ
upload_of name digits content = concat (
    codes "POST /b2api/v3/b2_upload_file/" ∷ bucket
    ∷ codes " HTTP/1.1\r\nAuthorization: " ∷ upload_token
    ∷ codes "\r\nX-Bz-File-Name: " ∷ name
    ∷ codes "\r\nContent-Type: text/plain\r\nX-Bz-Content-Sha1: do_not_verify\r\nContent-Length: " ∷ digits
    ∷ codes "\r\n\r\n" ∷ content ∷ [])

pub upload_short : (name digits content v : List ℕ) → length name ≤ 64 → length digits ≤ 40 → length content ≤ 64 → v ≡ upload_of name digits content → length v ≤ 1024
upload_short name digits content v one two three is =
    let parts = codes "POST /b2api/v3/b2_upload_file/" ∷ bucket ∷ codes " HTTP/1.1\r\nAuthorization: " ∷ upload_token ∷ codes "\r\nX-Bz-File-Name: " ∷ name
    ∷ codes "\r\nContent-Type: text/plain\r\nX-Bz-Content-Sha1: do_not_verify\r\nContent-Length: " ∷ digits ∷ codes "\r\n\r\n" ∷ content ∷ [] in
    let size : length v ≡ 30 + (24 + (26 + (61 + (18 + (length name + (78 + (length digits + (4 + (length content + 0))))))))) = ap length is ∙ length_concat parts in
    omega (arith, size, one, two, three)

-- ---- bodies

pub about_bucket : (v : List ℕ) → v ≡ concat (codes "{\"bucketId\":\"" ∷ bucket ∷ codes "\"}" ∷ []) → length v ≤ 256
about_bucket v is = let size : length v ≡ 39 = ap length is in omega (arith, size)

pub hide_short : (name v : List ℕ) → length name ≤ 64 → v ≡ concat (codes "{\"bucketId\":\"" ∷ bucket ∷ codes "\",\"fileName\":\"" ∷ name ∷ codes "\"}" ∷ []) → length v ≤ 256
hide_short name v one is =
    let parts = codes "{\"bucketId\":\"" ∷ bucket ∷ codes "\",\"fileName\":\"" ∷ name ∷ codes "\"}" ∷ [] in
    let size : length v ≡ 13 + (24 + (14 + (length name + (2 + 0)))) = ap length is ∙ length_concat parts in omega (arith, size, one)

pub list_short : (name v : List ℕ) → length name ≤ 64 → v ≡ concat (codes "{\"bucketId\":\"" ∷ bucket ∷ codes "\",\"maxFileCount\":100,\"startFileName\":\"" ∷ name ∷ codes "\"}" ∷ []) → length v ≤ 256
list_short name v one is =
    let parts = codes "{\"bucketId\":\"" ∷ bucket ∷ codes "\",\"maxFileCount\":100,\"startFileName\":\"" ∷ name ∷ codes "\"}" ∷ [] in
    let size : length v ≡ 13 + (24 + (38 + (length name + (2 + 0)))) = ap length is ∙ length_concat parts in omega (arith, size, one)
