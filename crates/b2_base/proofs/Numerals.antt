-- The text of a number is a plain numeral, a plain numeral is the text of the number that it reads as, and
-- digits read as their value.
use Rattle.std.proofs.Common.{◌≡◌, ◌≢◌, ℕ, zero, suc, ◌<◌, ◌≤◌, ◌^◌, ◌↔◌, Bool, true, false, List, [], ◌∷◌, length, get_or, Result, Ok, Err, IsTrue, MatchResult, sym, ap, ◌∙◌, subst, refl, arith, decimal}
use Rattle.std.specs.Int.{IsInRange}
use Rattle.std.specs.Str.{IsUtf8, all_ascii_digits}
use Rattle.std.specs.Str.Parse.{ParsesUnsigned, digits_value}
use Rattle.std.proofs.lemmas.Bool.{false≢true, and_parts, leb-true, false_from_ne_true}
use Rattle.std.proofs.lemmas.Str.{IsUtf8-from_ascii}
use Rattle.std.proofs.lemmas.Str.Parse.{IsNumeralModel, numerals_by_value, tells_by_index, tells_all_ascii_digits, parse_digits, parse_gives, digits_value_short}
use Rattle.std.proofs.lemmas.Fmt.{digits_decimal, decimal_nonempty, first_decimal, decimal-digits_value, parse-decimal, decimal_digit}
use Rattle.b2_base.specs.Decimal.{has_digits, IsPlainNumeral}

own : IsNumeralModel (λ ds. all_ascii_digits ds ≡ true) (digits_value 10)
own = numerals_by_value _ tells_all_ascii_digits

by_index : IsNumeralModel (λ ds. (i : ℕ) → i < length ds → IsInRange 48 57 (get_or ds i 0)) (digits_value 10)
by_index = numerals_by_value _ tells_by_index

-- that each byte is a digit, as a test
pub same_digits : (text : List ℕ) (r : Bool) → IsTrue r ↔ ((i : ℕ) → i < length text → IsInRange 48 57 (get_or text i 0)) → r ≡ all_ascii_digits text
same_digits text true same = sym (own.from text (by_index.to text (same.0 refl)))
same_digits text false same = sym (false_from_ne_true (all_ascii_digits text) (λ all. false≢true (same.1 (by_index.from text (own.to text all)))))

first_is_zero : (n : ℕ) → n < 2 ^ 64 → get_or (decimal n) 0 0 ≡ 48 → length (decimal n) ≡ 1
first_is_zero zero small zero_digit = ap length (decimal_digit 0 (omega arith))
first_is_zero (suc n) small zero_digit = absurd (omega (arith, first_decimal (suc n) (omega arith) small))

pub numeral_of_number : (n : ℕ) (text : List ℕ) → n < 2 ^ 64 → text ≡ decimal n → IsPlainNumeral text
numeral_of_number n text small is = let P : List ℕ → Type 0 = IsPlainNumeral in subst P (sym is) (record {
  some = decimal_nonempty n small;
  digits = digits_decimal by_index n small;
  leading = first_is_zero n small;
})

-- what `parse` reads of a plain numeral
pub numeral_reads : {E : Type 0} (text : List ℕ) (r : Result ℕ E) → IsPlainNumeral text → ParsesUnsigned 64 10 text r
    → MatchResult r (λ n. text ≡ decimal n) (λ _. (n : ℕ) → n < 2 ^ 64 → text ≢ decimal n)
numeral_reads {E} text (Ok n) plain parses =
    let r : Result ℕ E = Ok n in
    let found = parse_digits by_index 64 text r parses plain.digits in
    sym (decimal-digits_value by_index text plain.digits plain.some plain.leading found.0.1) ∙ ap decimal (sym found.1)
numeral_reads {E} text (Err e) plain parses = λ n small is.
    let r : Result ℕ E = Err e in
    let same : r ≡ Ok n = parse-decimal 64 n text r small small is parses in
    cc same

ascii : (text : List ℕ) (i : ℕ) → all_ascii_digits text ≡ true → get_or text i 0 < 128
ascii [] i all = omega arith
ascii (c ∷ cs) zero all = let digit = tells_all_ascii_digits.parts c cs all in omega (arith, digit.0)
ascii (c ∷ cs) (suc i) all = ascii cs i (tells_all_ascii_digits.parts c cs all).1

digits_in : (most : ℕ) (text : List ℕ) → has_digits most text ≡ true → all_ascii_digits text ≡ true
digits_in most text is = (and_parts _ (all_ascii_digits text) is).1

some_in : (most : ℕ) (text : List ℕ) → has_digits most text ≡ true → 0 < length text
some_in most text is = let some = leb-true 1 (length text) (and_parts _ _ (and_parts _ (all_ascii_digits text) is).0).0 in omega (arith, some)

few_in : (most : ℕ) (text : List ℕ) → has_digits most text ≡ true → length text ≤ most
few_in most text is = leb-true (length text) most (and_parts _ _ (and_parts _ (all_ascii_digits text) is).0).1

pub digits_text : (most : ℕ) (text : List ℕ) → has_digits most text ≡ true → IsUtf8 text
digits_text most text is = IsUtf8-from_ascii text (λ i. ascii text i (digits_in most text is))

below : (most : ℕ) (text : List ℕ) → most ≤ 19 → has_digits most text ≡ true → digits_value 10 text < 2 ^ 64
below most text few is =
    let short = few_in most text is in
    let small = digits_value_short own text 19 (digits_in most text is) (omega (arith, few, short)) in omega (arith, small)

-- what `parse` reads of digits
pub digits_read : {E : Type 0} (most : ℕ) (text : List ℕ) (r : Result ℕ E) → most ≤ 19 → has_digits most text ≡ true → ParsesUnsigned 64 10 text r
    → r ≡ Ok (digits_value 10 text)
digits_read most text r few is parses = parse_gives own 64 text r parses (digits_in most text is) (some_in most text is) (below most text few is)
