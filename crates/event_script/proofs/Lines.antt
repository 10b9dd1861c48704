-- A text is one line, and no line has a line feed in it.
use Rattle.std.proofs.Common.{◌≡◌, ◌≢◌, ℕ, ◌<◌, ◌^◌, List, ◌∷◌, ◌++◌, refl, sym, ap, ◌∙◌, arith, codes, decimal}
use Rattle.std.specs.List.{All}
use Rattle.std.proofs.lemmas.List.Elements.{All-cons, All-append}
use Rattle.std.proofs.lemmas.Fmt.{decimal_injective}
use Rattle.hex.specs.Hex.{encode_lower}
use Rattle.b2_base.specs.Digits.{sixteen_digits}
use Rattle.b2_base.proofs.DigitsLemmas.{same_sixteen}
use Rattle.event_script.specs.declared.line.Said.{Said}
use Rattle.event_script.specs.Line.{Line, reading, random, opening, piece, written, ready, gone, stop, line_text, Fits, says, ReadsAs}
use Rattle.event_script.proofs.Cuts.{clean_by_test, clean_number, same_conn}
use Rattle.event_script.proofs.Pieces.{clean_word, clean_digits, same_bytes}
use Rattle.event_script.proofs.Keywords.{behind_at, behind_word, behind_open, behind_piece, behind_line, behind_ready, behind_gone, only_stop}

-- a keyword and a connection have no line feed
clean_conn : (n : ℕ) → n < 2 ^ 32 → All (λ c. c ≢ 10) (decimal n)
clean_conn n small = clean_number 10 n (omega arith) (omega (arith, small))

clean_on : (n : ℕ) (xs : List ℕ) → n < 2 ^ 32 → All (λ c. c ≢ 10) xs → All (λ c. c ≢ 10) (decimal n ++ 32 ∷ xs)
clean_on n xs small clean = All-append (λ c. c ≢ 10) (decimal n) (32 ∷ xs) (clean_conn n small) (All-cons (λ c. c ≢ 10) 32 xs (λ same. omega arith) clean)

pub one_line : (line : Line) → Fits line → All (λ c. c ≢ 10) (line_text line)
one_line (reading n) fits = All-append (λ c. c ≢ 10) (codes "at ") (decimal n) (clean_by_test 10 (codes "at ") refl) (clean_number 10 n (omega arith) fits)
one_line (random n) fits = All-append (λ c. c ≢ 10) (codes "word ") (sixteen_digits n) (clean_by_test 10 (codes "word ") refl) (clean_word n)
one_line (opening n) fits = All-append (λ c. c ≢ 10) (codes "open ") (decimal n) (clean_by_test 10 (codes "open ") refl) (clean_conn n fits)
one_line (piece n xs) fits = All-append (λ c. c ≢ 10) (codes "piece ") (decimal n ++ 32 ∷ encode_lower xs) (clean_by_test 10 (codes "piece ") refl) (clean_on n (encode_lower xs) fits.0 (clean_digits xs fits.1.each))
one_line (written n xs) fits = All-append (λ c. c ≢ 10) (codes "line ") (decimal n ++ 32 ∷ xs) (clean_by_test 10 (codes "line ") refl) (clean_on n xs fits.0 fits.1.each)
one_line (ready n) fits = All-append (λ c. c ≢ 10) (codes "ready ") (decimal n) (clean_by_test 10 (codes "ready ") refl) (clean_conn n fits)
one_line (gone n) fits = All-append (λ c. c ≢ 10) (codes "gone ") (decimal n) (clean_by_test 10 (codes "gone ") refl) (clean_conn n fits)
one_line stop fits = clean_by_test 10 (codes "stop") refl

same_number : (m n : ℕ) → m < 2 ^ 32 → n < 2 ^ 32 → decimal m ≡ decimal n → m ≡ n
same_number m n small_m small_n same = decimal_injective m n (omega (arith, small_m)) (omega (arith, small_n)) same

-- a text is one line
pub same_line : (a b : Line) → Fits a → Fits b → line_text a ≡ line_text b → a ≡ b
same_line (reading n) b fits_a fits_b same =
    let found = behind_at (decimal n) b fits_b same in
    ap reading (decimal_injective n found.0 fits_a found.2 found.3) ∙ sym found.1
same_line (random n) b fits_a fits_b same =
    let found = behind_word (sixteen_digits n) b fits_b same in
    ap random (same_sixteen n found.0 fits_a found.2 found.3) ∙ sym found.1
same_line (opening n) b fits_a fits_b same =
    let found = behind_open (decimal n) b fits_b same in
    ap opening (same_number n found.0 fits_a found.2 found.3) ∙ sym found.1
same_line (piece n xs) b fits_a fits_b same =
    let found = behind_piece (decimal n ++ 32 ∷ encode_lower xs) b fits_b same in
    let cut = same_conn n found.0 (encode_lower xs) (encode_lower found.1) fits_a.0 found.3 found.5 in
    ap (λ m. piece m xs) cut.0 ∙ ap (piece found.0) (same_bytes xs found.1 fits_a.1.each found.4.each cut.1) ∙ sym found.2
same_line (written n xs) b fits_a fits_b same =
    let found = behind_line (decimal n ++ 32 ∷ xs) b fits_b same in
    let cut = same_conn n found.0 xs found.1 fits_a.0 found.3 found.5 in
    ap (λ m. written m xs) cut.0 ∙ ap (written found.0) cut.1 ∙ sym found.2
same_line (ready n) b fits_a fits_b same =
    let found = behind_ready (decimal n) b fits_b same in
    ap ready (same_number n found.0 fits_a found.2 found.3) ∙ sym found.1
same_line (gone n) b fits_a fits_b same =
    let found = behind_gone (decimal n) b fits_b same in
    ap gone (same_number n found.0 fits_a found.2 found.3) ∙ sym found.1
same_line stop b fits_a fits_b same = sym (only_stop b fits_b same)

pub one_said : (text : List ℕ) (a b : Said) → ReadsAs text a → ReadsAs text b → a ≡ b
one_said text a b (line, fits, is, said) (other, fits_other, is_other, said_other) =
    sym said ∙ ap says (same_line line other fits fits_other (sym is ∙ is_other)) ∙ said_other
