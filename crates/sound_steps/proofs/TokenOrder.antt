-- Of one opening, the text of a token with a lower serial stands before that of one with a greater.
use Rattle.std.proofs.Common.{◌≡◌, ◌⊎◌, inl, inr, ℕ, zero, suc, ◌<◌, ◌≤◌, ◌/◌, ◌%◌, ◌^◌, nat_lt, nat_cmp, Bool, true, false, ◌&&◌, List, [], ◌∷◌, ◌++◌, All, Ordering, Less, Equal, Greater, length, drop, get_or, codes, refl, sym, ap, subst, ◌∙◌, arith}
use Rattle.std.specs.List.{AllPairs}
use Rattle.std.specs.Ordering.{ordering_then}
use Rattle.std.specs.Cmp.Lexicographic.{slice_cmp}
use Rattle.std.specs.Int.{byte_at, bytes_high_first}
use Rattle.std.proofs.Math.Nat.{div-div-eq-div-mul, div-mul-le_self, pow-suc, one-le-pow}
use Rattle.std.proofs.lemmas.Nat.{le-div}
use Rattle.std.proofs.lemmas.Bool.Decides.{nat_tests}
use Rattle.std.proofs.lemmas.List.Elements.{All-nil, All-cons}
use Rattle.std.proofs.lemmas.List.Kept.{AllPairs-cons}
use Rattle.hex.specs.Hex.{encode_with, encode_lower, lower_digits}
use Rattle.b2_base.specs.Digits.{eight_digits, sixteen_digits}
use Rattle.b2_base.proofs.DigitsLemmas.{length-sixteen_digits}
use Rattle.b2_model.specs.LiveGrant.{token_text}
use Rattle.sound_states.specs.Sound.{IsBefore}
use Rattle.sound_states.proofs.Ascending.{pairs_nil, all_from}
use Rattle.sound_states.proofs.Tests.{both_hold, less}
use Rattle.sound_steps.proofs.TokenTexts.{flat}

-- ---- lists of numbers in order

lower_first : (x y : ℕ) (xs ys : List ℕ) → x < y → IsBefore (x ∷ xs) (y ∷ ys)
lower_first x y xs ys lt = let is : nat_lt x y ≡ true = grind (arith, nat_tests, lt) in rw is refl

itself : (x : ℕ) → nat_cmp x x ≡ Equal
itself x = grind (arith, nat_tests)

same_first : (x : ℕ) (xs ys : List ℕ) → slice_cmp nat_cmp (x ∷ xs) (x ∷ ys) ≡ slice_cmp nat_cmp xs ys
same_first x xs ys = ap (λ o. ordering_then o (slice_cmp nat_cmp xs ys)) (itself x)

same_front : (front xs ys : List ℕ) → slice_cmp nat_cmp (front ++ xs) (front ++ ys) ≡ slice_cmp nat_cmp xs ys
same_front [] xs ys = refl
same_front (x ∷ front) xs ys = same_first x (front ++ xs) (front ++ ys) ∙ same_front front xs ys

-- what stands after two lists of one length does not matter where they differ
before_more : (xs ys x y : List ℕ) → length xs ≡ length ys → IsBefore xs ys → IsBefore (xs ++ x) (ys ++ y)
before_more [] [] x y long before = absurd (cc)
before_more [] (b ∷ ys) x y long before = absurd (omega (arith, long))
before_more (a ∷ xs) [] x y long before = absurd (omega (arith, long))
before_more (a ∷ xs) (b ∷ ys) x y long before = by (nat_cmp a b) before (before_more xs ys x y (omega (arith, long)))
  where
    by : (o : Ordering) → ordering_then o (slice_cmp nat_cmp xs ys) ≡ Less → (IsBefore xs ys → IsBefore (xs ++ x) (ys ++ y)) → ordering_then o (slice_cmp nat_cmp (xs ++ x) (ys ++ y)) ≡ Less
    by Less is rest = refl
    by Equal is rest = rest is
    by Greater is rest = absurd (cc)

-- ---- digits

-- each number of the list is above the one before it, the first above this one
abbrev rises_from : ℕ → List ℕ → Bool
rises_from x [] = true
rises_from x (y ∷ ys) = nat_lt x y && rises_from y ys

all_above : (x : ℕ) (ys : List ℕ) → rises_from x ys ≡ true → All (λ y. x < y) ys
all_above x [] is = All-nil _
all_above x (y ∷ ys) is =
    let both = both_hold (nat_lt x y) (rises_from y ys) is in
    let lt = less x y both.0 in
    All-cons (λ z. x < z) y ys lt (all_from (λ z. y < z) (λ z. x < z) ys (λ z later. omega (arith, lt, later)) (all_above y ys both.1))

rising : (x : ℕ) (ys : List ℕ) → rises_from x ys ≡ true → AllPairs (λ a b. a < b) (x ∷ ys)
rising x [] is = AllPairs-cons (λ a b. a < b) x [] (All-nil _) (pairs_nil (λ a b. a < b))
rising x (y ∷ ys) is = AllPairs-cons (λ a b. a < b) x (y ∷ ys) (all_above x (y ∷ ys) is) (rising y ys (both_hold (nat_lt x y) (rises_from y ys) is).1)

lower_digit : (i j : ℕ) → i < j → j < 16 → get_or lower_digits i 0 < get_or lower_digits j 0
lower_digit i j lt small = rising 48 (drop 1 lower_digits) refl i j 0 lt small

-- ---- bytes

heads : (x y : ℕ) (xs ys : List ℕ) → x ≡ y → IsBefore xs ys → IsBefore (x ∷ xs) (y ∷ ys)
heads x y xs ys same before = ap (λ z. slice_cmp nat_cmp (x ∷ xs) (z ∷ ys)) (sym same) ∙ same_first x xs ys ∙ before

-- the first digit of two decides, else the second
halves : (b c : ℕ) (is_lower : Bool) → nat_lt (b / 16) (c / 16) ≡ is_lower → b < c → (b / 16 < c / 16) ⊎ ((b / 16 ≡ c / 16) × (b % 16 < c % 16))
halves b c true is lt = inl (less (b / 16) (c / 16) is)
halves b c false is lt = let not_lower : c / 16 ≤ b / 16 = grind (arith, nat_tests, is) in inr (omega (arith, not_lower, lt), omega (arith, not_lower, lt))

abbrev digit : ℕ → ℕ
digit i = get_or lower_digits i 0

encoded : (b : ℕ) (xs : List ℕ) → encode_lower (b ∷ xs) ≡ digit (b / 16) ∷ digit (b % 16) ∷ encode_lower xs
unfolding encode_with
encoded b xs = refl

by_digits : (b c : ℕ) (xs ys : List ℕ) → IsBefore (digit (b / 16) ∷ digit (b % 16) ∷ encode_lower xs) (digit (c / 16) ∷ digit (c % 16) ∷ encode_lower ys) → IsBefore (encode_lower (b ∷ xs)) (encode_lower (c ∷ ys))
by_digits b c xs ys before = rw (encoded b xs, encoded c ys) before

lower_half : (b c : ℕ) (xs ys : List ℕ) → c < 256 → (b / 16 < c / 16) ⊎ ((b / 16 ≡ c / 16) × (b % 16 < c % 16))
    → IsBefore (digit (b / 16) ∷ digit (b % 16) ∷ xs) (digit (c / 16) ∷ digit (c % 16) ∷ ys)
lower_half b c xs ys small (inl first) = lower_first (digit (b / 16)) (digit (c / 16)) (digit (b % 16) ∷ xs) (digit (c % 16) ∷ ys) (lower_digit (b / 16) (c / 16) first (omega (arith, small)))
lower_half b c xs ys small (inr second) =
    heads (digit (b / 16)) (digit (c / 16)) (digit (b % 16) ∷ xs) (digit (c % 16) ∷ ys) (ap digit second.0)
    (lower_first (digit (b % 16)) (digit (c % 16)) xs ys (lower_digit (b % 16) (c % 16) second.1 (omega arith)))

lower_byte : (b c : ℕ) (xs ys : List ℕ) → b < c → c < 256 → IsBefore (encode_lower (b ∷ xs)) (encode_lower (c ∷ ys))
lower_byte b c xs ys lt small = by_digits b c xs ys (lower_half b c (encode_lower xs) (encode_lower ys) small (halves b c (nat_lt (b / 16) (c / 16)) refl lt))

same_byte : (b c : ℕ) (xs ys : List ℕ) → b ≡ c → IsBefore (encode_lower xs) (encode_lower ys) → IsBefore (encode_lower (b ∷ xs)) (encode_lower (c ∷ ys))
same_byte b c xs ys same before =
    by_digits b c xs ys (heads (digit (b / 16)) (digit (c / 16)) (digit (b % 16) ∷ encode_lower xs) (digit (c % 16) ∷ encode_lower ys) (ap (λ b. digit (b / 16)) same)
    (heads (digit (b % 16)) (digit (c % 16)) (encode_lower xs) (encode_lower ys) (ap (λ b. digit (b % 16)) same) before))

byte_is : (k n : ℕ) → byte_at k n ≡ n / 256 ^ k % 256
byte_is zero n = omega arith
byte_is (suc k) n = refl

next_power : (k n : ℕ) → n / 256 ^ suc k ≡ n / 256 ^ k / 256
next_power k n = ap (λ q. n / q) (pow-suc 256 k) ∙ sym (div-div-eq-div-mul n (256 ^ k) 256)

rounded : (p m n : ℕ) → 0 < p → m < n → m / p ≤ n / p
rounded p m n above lt = let most = div-mul-le_self m p in le-div (m / p) n p above (omega (arith, most, lt))

lower_bytes : (k m n : ℕ) → m / 256 ^ k ≡ n / 256 ^ k → m < n → IsBefore (encode_lower (bytes_high_first k m)) (encode_lower (bytes_high_first k n))
lower_bytes zero m n same lt = absurd (omega (arith, same, lt))
lower_bytes (suc k) m n same lt = by (nat_lt (m / 256 ^ k) (n / 256 ^ k)) refl (lower_bytes k m n)
  where
    quotients : m / 256 ^ k / 256 ≡ n / 256 ^ k / 256
    quotients = sym (next_power k m) ∙ same ∙ next_power k n

    below : (x y : ℕ) → x / 256 ≡ y / 256 → x < y → x % 256 < y % 256
    below x y same lt = omega (arith, same, lt)

    by : (is_lower : Bool) → nat_lt (m / 256 ^ k) (n / 256 ^ k) ≡ is_lower
        → (m / 256 ^ k ≡ n / 256 ^ k → m < n → IsBefore (encode_lower (bytes_high_first k m)) (encode_lower (bytes_high_first k n)))
        → IsBefore (encode_lower (bytes_high_first (suc k) m)) (encode_lower (bytes_high_first (suc k) n))
    by true is rest =
        let high = below (m / 256 ^ k) (n / 256 ^ k) quotients (less (m / 256 ^ k) (n / 256 ^ k) is) in
        let first = byte_is k m in
        let second = byte_is k n in
        lower_byte (byte_at k m) (byte_at k n) (bytes_high_first k m) (bytes_high_first k n) (subst (λ x. x < byte_at k n) (sym first) (subst (λ y. m / 256 ^ k % 256 < y) (sym second) high))
        (subst (λ y. y < 256) (sym second) (omega arith))
    by false is rest =
        let most = rounded (256 ^ k) m n (one-le-pow k 256 (omega arith)) lt in
        let equal : m / 256 ^ k ≡ n / 256 ^ k = grind (arith, nat_tests, is, most) in
        same_byte (byte_at k m) (byte_at k n) (bytes_high_first k m) (bytes_high_first k n) (byte_is k m ∙ ap (λ q. q % 256) equal ∙ sym (byte_is k n)) (rest equal lt)

-- ---- texts

lower_sixteen : (s t : ℕ) → s < t → t < 2 ^ 64 → IsBefore (sixteen_digits s) (sixteen_digits t)
unfolding sixteen_digits
lower_sixteen s t lt small = lower_bytes 8 s t (omega (arith, lt, small)) lt

pub lower_text : (boot s t first second first' second' : ℕ) → s < t → t < 2 ^ 64 → IsBefore (token_text boot s first second) (token_text boot t first' second')
lower_text boot s t first second first' second' lt small =
    let rest = 95 ∷ (sixteen_digits first ++ (95 ∷ sixteen_digits second)) in
    let rest' = 95 ∷ (sixteen_digits first' ++ (95 ∷ sixteen_digits second')) in
    ap (λ text. slice_cmp nat_cmp text (token_text boot t first' second')) (flat (codes "3_") (eight_digits boot) (sixteen_digits s) (sixteen_digits first) (sixteen_digits second))
    ∙ ap (slice_cmp nat_cmp (codes "3_" ++ (eight_digits boot ++ (95 ∷ (sixteen_digits s ++ rest))))) (flat (codes "3_") (eight_digits boot) (sixteen_digits t) (sixteen_digits first') (sixteen_digits second'))
    ∙ same_front (codes "3_") (eight_digits boot ++ (95 ∷ (sixteen_digits s ++ rest))) (eight_digits boot ++ (95 ∷ (sixteen_digits t ++ rest')))
    ∙ same_front (eight_digits boot) (95 ∷ (sixteen_digits s ++ rest)) (95 ∷ (sixteen_digits t ++ rest'))
    ∙ same_first 95 (sixteen_digits s ++ rest) (sixteen_digits t ++ rest')
    ∙ before_more (sixteen_digits s) (sixteen_digits t) rest rest' (length-sixteen_digits s ∙ sym (length-sixteen_digits t)) (lower_sixteen s t lt small)
