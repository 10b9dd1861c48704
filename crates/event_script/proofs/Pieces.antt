-- The digits of bytes.
use Rattle.std.proofs.Common.{◌≡◌, ◌≢◌, ℕ, ◌<◌, ◌*◌, ◌/◌, ◌≤◌, List, [], length, IsTrue, IsOk, Result, Ok, sym, ap, ◌∙◌, refl, arith}
use Rattle.std.specs.List.{All}
use Rattle.std.specs.Result.{result_unwrap_or}
use Rattle.std.proofs.lemmas.List.Elements.{All-weaker}
use Rattle.std.proofs.lemmas.Bool.{false≢true}
use Rattle.hex.specs.Hex.{encode_lower, decode_sized, is_hex_digit, IsBytes, lower_digits}
use Rattle.hex.proofs.HexLemmas.{decode_sized-encode_lower, decode_sized-ok, decode_sized-twice, decode_of-ok, length-encode_with, IsOk-decode_sized}
use Rattle.b2_base.specs.Digits.{sixteen_digits}
use Rattle.b2_base.proofs.DigitsLemmas.{decodes_sixteen}
use Rattle.event_script.specs.Line.{IsPiece}

pub digits_len : (xs : List ℕ) → length (encode_lower xs) ≡ 2 * length xs
digits_len xs = length-encode_with lower_digits xs

digit_is_no_break : (b : ℕ) → IsTrue (is_hex_digit b) → b ≢ 10
digit_is_no_break b digit same = false≢true (sym (ap is_hex_digit same) ∙ digit)

ok_of : {T E : Type 0} (r : Result T E) (x : T) → r ≡ Ok x → IsOk r
ok_of r x is = rw is refl

-- what decodes has no line feed
clean_decoded : (text bytes : List ℕ) (k : ℕ) → decode_sized text k ≡ Ok bytes → All (λ c. c ≢ 10) text
clean_decoded text bytes k reads =
    let digits = (IsOk-decode_sized text k).0 (ok_of (decode_sized text k) bytes reads) in
    All-weaker (λ c. IsTrue (is_hex_digit c)) (λ c. c ≢ 10) digit_is_no_break text digits.1

pub clean_word : (n : ℕ) → All (λ c. c ≢ 10) (sixteen_digits n)
clean_word n = clean_decoded (sixteen_digits n) _ 8 (decodes_sixteen (sixteen_digits n) n refl)

pub clean_digits : (xs : List ℕ) → IsBytes xs → All (λ c. c ≢ 10) (encode_lower xs)
clean_digits xs fits = clean_decoded (encode_lower xs) xs (length xs) (decode_sized-encode_lower xs (length xs) refl fits)

-- bytes have their own digits
pub same_bytes : (xs ys : List ℕ) → IsBytes xs → IsBytes ys → encode_lower xs ≡ encode_lower ys → xs ≡ ys
same_bytes xs ys x_fits y_fits same =
    let len : length ys ≡ length xs = omega (arith, digits_len xs, digits_len ys, ap length same) in
    let first = decode_sized-encode_lower xs (length xs) refl x_fits in
    let second = decode_sized-encode_lower ys (length xs) len y_fits in
    ap (λ r. result_unwrap_or r []) (sym first ∙ ap (λ t. decode_sized t (length xs)) same ∙ second)

half_len : (digits bytes : List ℕ) → digits ≡ encode_lower bytes → length bytes ≡ length digits / 2
half_len digits bytes is = omega (arith, ap length is, digits_len bytes)

-- too few or too many digits are none of a piece
pub wrong_len : (digits : List ℕ) → ((0 < length digits) × (length digits ≤ 131072) → ⊥) → (bytes : List ℕ) → IsPiece bytes → digits ≢ encode_lower bytes
wrong_len digits wrong bytes fits is = wrong (omega (arith, ap length is, digits_len bytes, fits.some), omega (arith, ap length is, digits_len bytes, fits.most))

-- what doesn't decode is no digits of bytes
pub not_decoded : (digits : List ℕ) → ((bytes : List ℕ) → decode_sized digits (length digits / 2) ≢ Ok bytes) → (bytes : List ℕ) → IsPiece bytes → digits ≢ encode_lower bytes
not_decoded digits fails bytes fits is =
    fails bytes (ap (λ t. decode_sized t (length digits / 2)) is ∙ decode_sized-encode_lower bytes (length digits / 2) (half_len digits bytes is) fits.each)

-- what isn't the digits of what it decodes to isn't those of other bytes
pub other_bytes : (digits bytes : List ℕ) → decode_sized digits (length digits / 2) ≡ Ok bytes → digits ≢ encode_lower bytes
    → (others : List ℕ) → IsPiece others → digits ≢ encode_lower others
other_bytes digits bytes reads differs others fits is =
    let read = ap (λ t. decode_sized t (length digits / 2)) is ∙ decode_sized-encode_lower others (length digits / 2) (half_len digits others is) fits.each in
    let same : others ≡ bytes = ap (λ r. result_unwrap_or r []) (sym read ∙ reads) in
    differs (is ∙ ap encode_lower same)

-- the bytes of so many digits
pub is_piece : (digits bytes : List ℕ) → decode_sized digits (length digits / 2) ≡ Ok bytes → digits ≡ encode_lower bytes → 0 < length digits → length digits ≤ 131072 → IsPiece bytes
is_piece digits bytes reads is some most =
    let len = decode_sized-ok digits (length digits / 2) bytes reads in
    let decoded = decode_of-ok digits bytes (sym (decode_sized-twice digits (length digits / 2) len) ∙ reads) in
    record { each = decoded.3; some = omega (arith, some, ap length is, digits_len bytes); most = omega (arith, most, ap length is, digits_len bytes) }
