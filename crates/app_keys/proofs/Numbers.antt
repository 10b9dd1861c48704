-- The number that an id tells.
use Rattle.std.proofs.Common.{◌≡◌, ℕ, zero, suc, ◌+◌, ◌*◌, ◌/◌, ◌%◌, ◌<◌, ◌^◌, ◌==◌, ◌≢◌, Bool, true, false, List, [], ◌∷◌, ◌++◌, length, drop, fold, slice_index, codes, if◌then◌else◌, refl, sym, ap, ◌∙◌, arith, append_assoc, length-append}
use Rattle.std.proofs.lemmas.List.{drop_at}
use Rattle.std.proofs.lemmas.Nat.{from_be_bytes-to_be_bytes_4}
use Rattle.std.specs.Char.{digit_value}
use Rattle.std.specs.Int.{w32, to_be_bytes, from_be_bytes, byte_at}
use Rattle.hex.specs.Hex.{encode_with, encode_lower, lower_digits}
use Rattle.b2_base.specs.Digits.{eight_digits}
use Rattle.b2_base.proofs.DigitsLemmas.{length-eight_digits}
use Rattle.b2_types.specs.KeyId.{key_id}
use Rattle.b2_model.specs.AskKeys.{key_number}

-- a digit reads as its value
digit : (d : ℕ) → d < 16 → digit_value (slice_index lower_digits d) ≡ d
digit zero small = refl
digit (suc zero) small = refl
digit (suc (suc zero)) small = refl
digit (suc (suc (suc zero))) small = refl
digit (suc (suc (suc (suc zero)))) small = refl
digit (suc (suc (suc (suc (suc zero))))) small = refl
digit (suc (suc (suc (suc (suc (suc zero)))))) small = refl
digit (suc (suc (suc (suc (suc (suc (suc zero))))))) small = refl
digit (suc (suc (suc (suc (suc (suc (suc (suc zero)))))))) small = refl
digit (suc (suc (suc (suc (suc (suc (suc (suc (suc zero))))))))) small = refl
digit (suc (suc (suc (suc (suc (suc (suc (suc (suc (suc zero)))))))))) small = refl
digit (suc (suc (suc (suc (suc (suc (suc (suc (suc (suc (suc zero))))))))))) small = refl
digit (suc (suc (suc (suc (suc (suc (suc (suc (suc (suc (suc (suc zero)))))))))))) small = refl
digit (suc (suc (suc (suc (suc (suc (suc (suc (suc (suc (suc (suc (suc zero))))))))))))) small = refl
digit (suc (suc (suc (suc (suc (suc (suc (suc (suc (suc (suc (suc (suc (suc zero)))))))))))))) small = refl
digit (suc (suc (suc (suc (suc (suc (suc (suc (suc (suc (suc (suc (suc (suc (suc zero))))))))))))))) small = refl
digit (suc (suc (suc (suc (suc (suc (suc (suc (suc (suc (suc (suc (suc (suc (suc (suc d)))))))))))))))) small = absurd (omega (arith, small))

after : ℕ → List ℕ → ℕ
after n digits = fold (λ n digit. 16 * n + digit_value digit) n digits

-- the two digits of a byte
two_digits : (n b : ℕ) → b < 256 → 16 * (16 * n + digit_value (slice_index lower_digits (b / 16))) + digit_value (slice_index lower_digits (b % 16)) ≡ 256 * n + b
two_digits n b small = rw (digit (b / 16) (omega arith), digit (b % 16) (omega arith)) (omega arith)

byte_small : (k n : ℕ) → byte_at k n < 256
byte_small zero n = omega arith
byte_small (suc k) n = omega arith

-- the digits of four bytes, after those of n
four_bytes : (a b c d : ℕ) → a < 256 → b < 256 → c < 256 → d < 256
    → fold (λ n digit. 16 * n + digit_value digit) 0 (encode_lower (a ∷ b ∷ c ∷ d ∷ [])) ≡ 256 * (256 * (256 * a + b) + c) + d
unfolding encode_with
four_bytes a b c d a_fits b_fits c_fits d_fits =
    rw (two_digits 0 a a_fits, two_digits (256 * 0 + a) b b_fits, two_digits (256 * (256 * 0 + a) + b) c c_fits, two_digits (256 * (256 * (256 * 0 + a) + b) + c) d d_fits) (omega arith)

eight : (n : ℕ) → n < 2 ^ 32 → fold (λ n digit. 16 * n + digit_value digit) 0 (eight_digits n) ≡ n
unfolding eight_digits
eight n small =
    let bytes = from_be_bytes-to_be_bytes_4 n small in
    four_bytes (byte_at 3 n) (byte_at 2 n) (byte_at 1 n) (byte_at 0 n) (byte_small 3 n) (byte_small 2 n) (byte_small 1 n) (byte_small 0 n) ∙ omega (arith, bytes)

-- ---- the digits after the account

tail_step : (id account : List ℕ) (key : ℕ) (r : Bool) → (key == 0) ≡ r → length account ≡ 12 → id ≡ key_id account key → length id ≢ 12
    → (length id ≡ 25) × (drop 15 id ≡ codes "00" ++ eight_digits key)
tail_step id account key true is len same other = absurd (other (ap length (same ∙ rw is refl) ∙ len))
tail_step id account key false is len same other =
    let long : id ≡ (codes "001" ++ account) ++ (codes "00" ++ eight_digits key) = same ∙ rw is (append_assoc (codes "001" ++ account) (codes "00") (eight_digits key)) in
    let front : length (codes "001" ++ account) ≡ 15 = omega (arith, length-append (codes "001") account, len) in (
      ap length long ∙ omega (arith, front, length-append (codes "001" ++ account) (codes "00" ++ eight_digits key), length-append (codes "00") (eight_digits key), length-eight_digits key),
      ap (drop 15) long ∙ drop_at (codes "001" ++ account) (codes "00" ++ eight_digits key) 15 front,
    )

tail : (id account : List ℕ) (key : ℕ) → length account ≡ 12 → id ≡ key_id account key → length id ≢ 12 → (length id ≡ 25) × (drop 15 id ≡ codes "00" ++ eight_digits key)
tail id account key = tail_step id account key _ refl

pub other_len : (id account : List ℕ) (key : ℕ) → length id ≢ 12 → length id ≢ 25 → length account ≡ 12 → id ≢ key_id account key
other_len id account key short long len same = long (tail id account key len same short).0

pub no_zeros_at : (id account : List ℕ) (key : ℕ) → length id ≡ 25 → ((xs : List ℕ) → drop 15 id ≢ codes "00" ++ xs) → length account ≡ 12 → id ≢ key_id account key
no_zeros_at id account key long none len same = none (eight_digits key) (tail id account key len same (λ short. omega (arith, long, short))).1

pub digits_at : (id account digits : List ℕ) (key : ℕ) → length id ≡ 25 → drop 15 id ≡ codes "00" ++ digits → length account ≡ 12 → id ≡ key_id account key
    → digits ≡ eight_digits key
digits_at id account digits key long zeros len same =
    ap (drop 2) (sym zeros ∙ (tail id account key len same (λ short. omega (arith, long, short))).1)

pub tells : (id digits : List ℕ) (key : ℕ) → length id ≡ 25 → drop 15 id ≡ codes "00" ++ digits → digits ≡ eight_digits key → key < 2 ^ 32 → key ≡ key_number id
tells id digits key long zeros is small =
    sym (rw (long, zeros, is) (eight key small))

pub tells_master : (id : List ℕ) → length id ≡ 12 → 0 ≡ key_number id
tells_master id short = rw short refl
