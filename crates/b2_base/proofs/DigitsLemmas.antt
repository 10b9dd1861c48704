-- A number has one text of eight or sixteen digits, and that text reads as it.
use Rattle.std.proofs.Common.{◌≡◌, ◌≢◌, ℕ, zero, suc, ◌<◌, ◌^◌, List, [], ◌∷◌, length, Ok, Err, sym, ap, ◌∙◌, refl, arith}
use Rattle.std.specs.Int.{w32, w64, to_be_bytes, from_be_bytes, bytes_high_first, byte_at}
use Rattle.std.specs.Result.{result_unwrap_or}
use Rattle.std.proofs.lemmas.Nat.{be_bytes_4, be_bytes_8, from_be_bytes-to_be_bytes_4, from_be_bytes-to_be_bytes_8}
use Rattle.hex.specs.Hex.{encode_lower, decode_sized, IsBytes, lower_digits}
use Rattle.hex.proofs.HexLemmas.{decode_sized-encode_lower, decode_sized-ok, decode_sized-twice, decode_of-ok, length-encode_with}
use Rattle.hex.specs.declared.error.FromHexError.{FromHexError}
use Rattle.b2_base.specs.Digits.{eight_digits, sixteen_digits}

bytes_cons : (x : ℕ) (xs : List ℕ) → x < 256 → IsBytes xs → IsBytes (x ∷ xs)
bytes_cons x xs small bytes zero = small
bytes_cons x xs small bytes (suc i) = bytes i

bytes_nil : IsBytes []
bytes_nil zero = omega arith
bytes_nil (suc i) = omega arith

byte_small : (k n : ℕ) → byte_at k n < 256
byte_small zero n = omega arith
byte_small (suc k) n = omega arith

high_bytes : (k n : ℕ) → IsBytes (bytes_high_first k n)
high_bytes zero n = bytes_nil
high_bytes (suc k) n = bytes_cons (byte_at k n) (bytes_high_first k n) (byte_small k n) (high_bytes k n)

-- the digits of bytes decode to them
decodes : (text bytes : List ℕ) (k : ℕ) → length bytes ≡ k → IsBytes bytes → text ≡ encode_lower bytes → decode_sized text k ≡ Ok bytes
decodes text bytes k len fits is = ap (λ t. decode_sized t k) is ∙ decode_sized-encode_lower bytes k len fits

-- what doesn't decode is no digits of bytes
not_decoded : (text : List ℕ) (k : ℕ) (e : FromHexError) → decode_sized text k ≡ Err e → (bytes : List ℕ) → length bytes ≡ k → IsBytes bytes → text ≢ encode_lower bytes
not_decoded text k e fails bytes len fits is = let read = decodes text bytes k len fits is in cc (fails, read)

-- what isn't the lower-case digits of what it decodes to isn't those of other bytes
other_bytes : (text bytes : List ℕ) (k : ℕ) → decode_sized text k ≡ Ok bytes → text ≢ encode_lower bytes → (others : List ℕ) → length others ≡ k → IsBytes others → text ≢ encode_lower others
other_bytes text bytes k reads differs others len fits is =
    let same : others ≡ bytes = ap (λ r. result_unwrap_or r []) (sym (decodes text others k len fits is) ∙ reads) in
    differs (is ∙ ap encode_lower same)

-- so many bytes were decoded
decoded_len : (text bytes : List ℕ) (k : ℕ) → decode_sized text k ≡ Ok bytes → (length bytes ≡ k) × IsBytes bytes
decoded_len text bytes k reads =
    let len = decode_sized-ok text k bytes reads in
    let decoded = decode_of-ok text bytes (sym (decode_sized-twice text k len) ∙ reads) in
    (omega (arith, len, decoded.2), decoded.3)

pub not_eight : (text : List ℕ) (e : FromHexError) → decode_sized text 4 ≡ Err e → (n : ℕ) → n < 2 ^ 32 → text ≢ eight_digits n
unfolding eight_digits
not_eight text e fails n small is = not_decoded text 4 e fails (to_be_bytes w32 n) refl (high_bytes 4 n) is

pub not_sixteen : (text : List ℕ) (e : FromHexError) → decode_sized text 8 ≡ Err e → (n : ℕ) → n < 2 ^ 64 → text ≢ sixteen_digits n
unfolding sixteen_digits
not_sixteen text e fails n small is = not_decoded text 8 e fails (to_be_bytes w64 n) refl (high_bytes 8 n) is

pub other_eight : (text bytes : List ℕ) → decode_sized text 4 ≡ Ok bytes → text ≢ encode_lower bytes → (n : ℕ) → n < 2 ^ 32 → text ≢ eight_digits n
unfolding eight_digits
other_eight text bytes reads differs n small is = other_bytes text bytes 4 reads differs (to_be_bytes w32 n) refl (high_bytes 4 n) is

pub other_sixteen : (text bytes : List ℕ) → decode_sized text 8 ≡ Ok bytes → text ≢ encode_lower bytes → (n : ℕ) → n < 2 ^ 64 → text ≢ sixteen_digits n
unfolding sixteen_digits
other_sixteen text bytes reads differs n small is = other_bytes text bytes 8 reads differs (to_be_bytes w64 n) refl (high_bytes 8 n) is

pub is_eight : (text bytes : List ℕ) (n : ℕ) → decode_sized text 4 ≡ Ok bytes → n ≡ from_be_bytes w32 bytes → text ≡ encode_lower bytes → text ≡ eight_digits n
unfolding eight_digits
is_eight text bytes n reads value is =
    let len = decoded_len text bytes 4 reads in
    is ∙ ap encode_lower (sym (be_bytes_4 bytes n len.0 len.1 value))

pub is_sixteen : (text bytes : List ℕ) (n : ℕ) → decode_sized text 8 ≡ Ok bytes → n ≡ from_be_bytes w64 bytes → text ≡ encode_lower bytes → text ≡ sixteen_digits n
unfolding sixteen_digits
is_sixteen text bytes n reads value is =
    let len = decoded_len text bytes 8 reads in
    is ∙ ap encode_lower (sym (be_bytes_8 bytes n len.0 len.1 value))

-- a number is read back
pub decodes_sixteen : (text : List ℕ) (n : ℕ) → text ≡ sixteen_digits n → decode_sized text 8 ≡ Ok (to_be_bytes w64 n)
unfolding sixteen_digits
decodes_sixteen text n is = decodes text (to_be_bytes w64 n) 8 refl (high_bytes 8 n) is

pub length-eight_digits : (n : ℕ) → length (eight_digits n) ≡ 8
unfolding eight_digits
length-eight_digits n = length-encode_with lower_digits (to_be_bytes w32 n)

pub length-sixteen_digits : (n : ℕ) → length (sixteen_digits n) ≡ 16
unfolding sixteen_digits
length-sixteen_digits n = length-encode_with lower_digits (to_be_bytes w64 n)

-- a number has its own digits
same_bytes : (k : ℕ) (xs ys : List ℕ) → length xs ≡ k → length ys ≡ k → IsBytes xs → IsBytes ys → encode_lower xs ≡ encode_lower ys → xs ≡ ys
same_bytes k xs ys x_len y_len x_fits y_fits same =
    let first = decodes (encode_lower xs) xs k x_len x_fits refl in
    let second = decodes (encode_lower xs) ys k y_len y_fits same in
    ap (λ r. result_unwrap_or r []) (sym first ∙ second)

pub same_eight : (m n : ℕ) → m < 2 ^ 32 → n < 2 ^ 32 → eight_digits m ≡ eight_digits n → m ≡ n
unfolding eight_digits
same_eight m n small_m small_n same =
    let bytes = same_bytes 4 (to_be_bytes w32 m) (to_be_bytes w32 n) refl refl (high_bytes 4 m) (high_bytes 4 n) same in
    sym (from_be_bytes-to_be_bytes_4 m small_m) ∙ ap (from_be_bytes w32) bytes ∙ from_be_bytes-to_be_bytes_4 n small_n

pub same_sixteen : (m n : ℕ) → m < 2 ^ 64 → n < 2 ^ 64 → sixteen_digits m ≡ sixteen_digits n → m ≡ n
unfolding sixteen_digits
same_sixteen m n small_m small_n same =
    let bytes = same_bytes 8 (to_be_bytes w64 m) (to_be_bytes w64 n) refl refl (high_bytes 8 m) (high_bytes 8 n) same in
    sym (from_be_bytes-to_be_bytes_8 m small_m) ∙ ap (from_be_bytes w64) bytes ∙ from_be_bytes-to_be_bytes_8 n small_n
