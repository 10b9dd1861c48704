-- Files and parts whose bodies are the same are the same but for what is not told.
use Rattle.std.proofs.Common.{◌≡◌, ℕ, ◌<◌, ◌^◌, ◌++◌, List, length, take, drop, Ok, sym, ap, ◌∙◌, refl, arith, codes, append_assoc}
use Rattle.std.proofs.Math.Seq.{take-append_seam}
use Rattle.hex.specs.Hex.{encode_lower, decode_of, IsBytes, lower_digits}
use Rattle.hex.proofs.HexLemmas.{decode_of-encode_lower, length-encode_with}
use Rattle.json_shape.specs.Fields.{field}
use Rattle.b2_base.specs.Digits.{eight_digits, sixteen_digits}
use Rattle.b2_base.specs.FileId.{file_id}
use Rattle.b2_base.proofs.DigitsLemmas.{same_eight, length-eight_digits}
use Rattle.b2_types.specs.declared.kinds.Mark.{Mark}
use Rattle.b2_types.specs.declared.kinds.Mark.TheVariants as mark
use Rattle.b2_types.specs.declared.shown.ShownDigest.{ShownDigest}
use Rattle.b2_types.specs.declared.shown.ShownPart.{ShownPart}
use Rattle.wire_forms.specs.Body.{digest_by, digest_text, part_json}
use Rattle.wire_laws.specs.Told.{told_by, told_digest, told_part, IsDigest, IsPart}
use Rattle.wire_laws.proofs.Plain.{text, count, same_version}

-- ---- digests

same_digits : (d e : List ℕ) → IsBytes d → IsBytes e → encode_lower d ≡ encode_lower e → d ≡ e
same_digits d e first second same =
    let digits : decode_of (encode_lower d) ≡ decode_of (encode_lower e) = ap decode_of same in
    let both : Ok d ≡ Ok e = sym (decode_of-encode_lower d first) ∙ digits ∙ decode_of-encode_lower e second in
    cc both

abbrev Len : List ℕ → Type 0
Len d = length d ≡ 20

forty : (d : List ℕ) → Len d → length (encode_lower d) ≡ 40
forty d len = let twice = length-encode_with lower_digits d in omega (arith, len, twice)

tells_by : (m n : Mark) (d e : List ℕ) → Len d → Len e → IsBytes d → IsBytes e → digest_by (encode_lower d) m ≡ digest_by (encode_lower e) n → told_by d m ≡ told_by e n
tells_by mark.Verified mark.Verified d e len_d len_e first second same = ap (λ x. told_by x mark.Verified) (same_digits d e first second same)
tells_by mark.Unverified mark.Unverified d e len_d len_e first second same = ap (λ x. told_by x mark.Unverified) (same_digits d e first second (ap (drop 11) same))
tells_by mark.Verified mark.Unverified d e len_d len_e first second same = absurd (omega (arith, ap length same, forty d len_d, forty e len_e))
tells_by mark.Unverified mark.Verified d e len_d len_e first second same = absurd (omega (arith, ap length same, forty d len_d, forty e len_e))
tells_by mark.Verified mark.Large d e len_d len_e first second same = absurd (omega (arith, ap length same, forty d len_d))
tells_by mark.Verified mark.Marker d e len_d len_e first second same = absurd (omega (arith, ap length same, forty d len_d))
tells_by mark.Large mark.Verified d e len_d len_e first second same = absurd (omega (arith, ap length same, forty e len_e))
tells_by mark.Marker mark.Verified d e len_d len_e first second same = absurd (omega (arith, ap length same, forty e len_e))
tells_by mark.Unverified mark.Large d e len_d len_e first second same = absurd (omega (arith, ap length same, forty d len_d))
tells_by mark.Unverified mark.Marker d e len_d len_e first second same = absurd (omega (arith, ap length same, forty d len_d))
tells_by mark.Large mark.Unverified d e len_d len_e first second same = absurd (omega (arith, ap length same, forty e len_e))
tells_by mark.Marker mark.Unverified d e len_d len_e first second same = absurd (omega (arith, ap length same, forty e len_e))
tells_by mark.Large mark.Large d e len_d len_e first second same = refl
tells_by mark.Large mark.Marker d e len_d len_e first second same = refl
tells_by mark.Marker mark.Large d e len_d len_e first second same = refl
tells_by mark.Marker mark.Marker d e len_d len_e first second same = refl

pub tells_digest : (a b : ShownDigest) → IsDigest a → IsDigest b → digest_text a ≡ digest_text b → told_digest a ≡ told_digest b
tells_digest a b first second same = tells_by a.mark b.mark a.digest b.digest first.0 second.0 first.1 second.1 same

keeps_by : (m : Mark) (d : List ℕ) → digest_text (told_by d m) ≡ digest_by (encode_lower d) m
keeps_by mark.Verified d = refl
keeps_by mark.Unverified d = refl
keeps_by mark.Large d = refl
keeps_by mark.Marker d = refl

pub keeps_digest : (d : ShownDigest) → digest_text (told_digest d) ≡ digest_text d
keeps_digest d = keeps_by d.mark d.digest

-- ---- parts

bucket_digits : (b v : ℕ) → take 8 (drop 3 (file_id b v)) ≡ eight_digits b
bucket_digits b v =
    let rest : List ℕ = codes "_f" ++ sixteen_digits v in
    ap (take 8) (append_assoc (eight_digits b) (codes "_f") (sixteen_digits v)) ∙ ap (λ n. take n (eight_digits b ++ rest)) (sym (length-eight_digits b)) ∙ take-append_seam (eight_digits b) rest

pub same_home : (a v b w : ℕ) → a < 2 ^ 32 → b < 2 ^ 32 → file_id a v ≡ file_id b w → a ≡ b
same_home a v b w small_a small_b same =
    same_eight a b small_a small_b (sym (bucket_digits a v) ∙ ap (λ t. take 8 (drop 3 t)) same ∙ bucket_digits b w)

pub tells_part : (a b : ShownPart) → IsPart a → IsPart b → part_json a ≡ part_json b → told_part a ≡ told_part b
tells_part a b first second same =
    let id : file_id a.bucket a.file ≡ file_id b.bucket b.file = ap (λ d. text (field (codes "fileId") d)) same in
    let bucket : a.bucket ≡ b.bucket = same_home a.bucket a.file b.bucket b.file first.bucket second.bucket id in
    let file : a.file ≡ b.file = same_version a.bucket a.file b.bucket b.file first.file second.file id in
    let number : a.number ≡ b.number = ap (λ d. count (field (codes "partNumber") d)) same in
    let len : a.length ≡ b.length = ap (λ d. count (field (codes "contentLength") d)) same in
    let digest : told_digest a.digest ≡ told_digest b.digest = tells_digest a.digest b.digest first.digest second.digest (ap (λ d. text (field (codes "contentSha1") d)) same) in
    let stamp : a.stamp ≡ b.stamp = ap (λ d. count (field (codes "uploadTimestamp") d)) same in
    λ i. record { bucket = bucket i; file = file i; number = number i; length = len i; digest = digest i; stamp = stamp i }

pub keeps_part : (p : ShownPart) → part_json (told_part p) ≡ part_json p
keeps_part p = rw (keeps_digest p.digest) refl
