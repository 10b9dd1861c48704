-- An escaped name is read back.
use Rattle.std.proofs.Common.{◌≡◌, ◌≢◌, ℕ, zero, suc, ◌+◌, ◌/◌, ◌%◌, ◌<◌, Bool, true, false, List, [], ◌∷◌, ◌++◌, length, map, get_or, All, IsTrue, refl, sym, ap, ◌∙◌, subst, arith}
use Rattle.std.specs.Char.{is_ascii_hexdigit}
use Rattle.std.specs.Fmt.{digit_glyph}
use Rattle.std.proofs.lemmas.Bool.{agree_below_at, ne_eqb, false≢true}
use Rattle.std.proofs.lemmas.Bool.Decides.{nat_tests}
use Rattle.std.proofs.lemmas.List.{map-append}
use Rattle.std.proofs.lemmas.List.Elements.{All-nil, All-cons, All-head, All-tail, All-append, All-weaker}
use Rattle.percent_encoding.specs.Percent.{percent_encode_byte}
use Rattle.percent_encoding.proofs.PercentLemmas.{IsByte, percent_decode-nil, percent_decode_not_percent, percent_decode-percent_encode_byte, All-percent_encode_byte, IsEscapeByte}
use Rattle.name_rules.specs.Escape.{is_plain, encoded_name, IsSent}
use Rattle.name_rules.specs.declared.file.NameFault.{NameFault}
use Rattle.name_rules.specs.declared.file.NameFault.TheVariants.{Empty, Long, NotUtf8, Code}
use Rattle.name_rules.specs.declared.decode.EscapeFault.{EscapeFault}
use Rattle.name_rules.specs.declared.decode.EscapeFault.TheVariants.{Escape, Name}
use Rattle.name_rules.specs.FileName.{IsFileName, IsNameFault}
use Rattle.name_rules.specs.Decode.{IsEscapeFault, IsBadEscape, HasNoBadEscape, plus_to_space, decoded_name}

plain_not : (b c : ℕ) → is_plain b ≡ true → is_plain c ≡ false → b ≢ c
plain_not b c plain none same = false≢true (sym none ∙ ap is_plain (sym same) ∙ plain)

plus_kept : (b : ℕ) → b ≢ 43 → plus_to_space b ≡ b
plus_kept b other = rw (ne_eqb b 43 other) refl

all_kept : (bs : List ℕ) → All (λ b. b ≢ 43) bs → map plus_to_space bs ≡ bs
all_kept [] none = refl
all_kept (b ∷ bs) none = rw (plus_kept b (All-head (λ x. x ≢ 43) b bs none), all_kept bs (All-tail (λ x. x ≢ 43) b bs none)) refl

no_plus : (b : ℕ) → IsEscapeByte b → b ≢ 43
no_plus b is = omega (arith, is)

-- ---- what is decoded

back_step : (b : ℕ) (bs : List ℕ) (plain : Bool) → is_plain b ≡ plain → b < 256 → decoded_name (encoded_name bs) ≡ bs → decoded_name (encoded_name (b ∷ bs)) ≡ b ∷ bs
back_step b bs true is small rest = rw (is, plus_kept b (plain_not b 43 is refl)) (percent_decode_not_percent b (map plus_to_space (encoded_name bs)) (plain_not b 37 is refl) ∙ ap (λ l. b ∷ l) rest)
back_step b bs false is small rest =
    let none = All-weaker IsEscapeByte (λ x. x ≢ 43) no_plus (percent_encode_byte b) (All-percent_encode_byte b) in
    rw (is, map-append plus_to_space (percent_encode_byte b) (encoded_name bs), all_kept (percent_encode_byte b) none)
    (percent_decode-percent_encode_byte b (map plus_to_space (encoded_name bs)) small ∙ ap (λ l. b ∷ l) rest)

pub decoded_back : (bs : List ℕ) → All IsByte bs → decoded_name (encoded_name bs) ≡ bs
decoded_back [] small = percent_decode-nil
decoded_back (b ∷ bs) small = back_step b bs (is_plain b) refl (All-head IsByte b bs small) (decoded_back bs (All-tail IsByte b bs small))

-- ---- what is sent

sent_plain : (b : ℕ) → is_plain b ≡ true → IsSent b
sent_plain b is = rw is refl

escape_sent : (b : ℕ) → IsEscapeByte b → IsSent b
escape_sent b is = grind (arith, nat_tests, is)

sent_step : (b : ℕ) (bs : List ℕ) (plain : Bool) → is_plain b ≡ plain → All IsSent (encoded_name bs) → All IsSent (encoded_name (b ∷ bs))
sent_step b bs true is rest = rw is (All-cons IsSent b (encoded_name bs) (sent_plain b is) rest)
sent_step b bs false is rest = rw is (All-append IsSent (percent_encode_byte b) (encoded_name bs) (All-weaker IsEscapeByte IsSent escape_sent (percent_encode_byte b) (All-percent_encode_byte b)) rest)

pub all_sent : (bs : List ℕ) → All IsSent (encoded_name bs)
all_sent [] = All-nil IsSent
all_sent (b ∷ bs) = sent_step b bs (is_plain b) refl (all_sent bs)

-- ---- no escape is bad

later : (b : ℕ) (bytes : List ℕ) (k : ℕ) → IsBadEscape (b ∷ bytes) (suc k) → IsBadEscape bytes k
later b bytes k bad =
    let first : suc (k + 1) ≡ suc k + 1 = omega arith in
    let second : suc (k + 2) ≡ suc k + 2 = omega arith in (
      omega (arith, bad.0),
      bad.1,
      λ digits. bad.2 (record {
        within = omega (arith, digits.within);
        high = subst (λ i. IsTrue (is_ascii_hexdigit (get_or (b ∷ bytes) i 0))) first digits.high;
        low = subst (λ i. IsTrue (is_ascii_hexdigit (get_or (b ∷ bytes) i 0))) second digits.low;
      }),
    )

none_later : (b : ℕ) (bytes : List ℕ) → b ≢ 37 → HasNoBadEscape bytes (length bytes) → HasNoBadEscape (b ∷ bytes) (length (b ∷ bytes))
none_later b bytes other none zero below bad = other bad.1
none_later b bytes other none (suc k) below bad = none k (omega (arith, below)) (later b bytes k bad)

hex_escape : (h l : ℕ) (bytes : List ℕ) → IsTrue (is_ascii_hexdigit h) → IsTrue (is_ascii_hexdigit l) → h ≢ 37 → l ≢ 37 → HasNoBadEscape bytes (length bytes)
    → HasNoBadEscape (37 ∷ h ∷ l ∷ bytes) (length (37 ∷ h ∷ l ∷ bytes))
hex_escape h l bytes high low h_other l_other none zero below bad = bad.2 (record { within = omega (arith); high = high; low = low })
hex_escape h l bytes high low h_other l_other none (suc k) below bad =
    none_later h (l ∷ bytes) h_other (none_later l bytes l_other none) k (omega (arith, below)) (later 37 (h ∷ l ∷ bytes) k bad)

glyph_hex : (d : ℕ) → d < 16 → IsTrue (is_ascii_hexdigit (digit_glyph true d))
glyph_hex d small = agree_below_at (λ d. is_ascii_hexdigit (digit_glyph true d)) (λ d. true) 16 d refl small

hex_other : (b : ℕ) → IsTrue (is_ascii_hexdigit b) → b ≢ 37
hex_other b is same = false≢true (ap is_ascii_hexdigit (sym same) ∙ is)

escape_fine : (b : ℕ) (bytes : List ℕ) → HasNoBadEscape bytes (length bytes) → HasNoBadEscape (percent_encode_byte b ++ bytes) (length (percent_encode_byte b ++ bytes))
unfolding percent_encode_byte
escape_fine b bytes none =
    let high = glyph_hex (b / 16 % 16) (omega arith) in
    let low = glyph_hex (b % 16) (omega arith) in
    hex_escape (digit_glyph true (b / 16 % 16)) (digit_glyph true (b % 16)) bytes high low (hex_other (digit_glyph true (b / 16 % 16)) high) (hex_other (digit_glyph true (b % 16)) low) none

fine_step : (b : ℕ) (bs : List ℕ) (plain : Bool) → is_plain b ≡ plain → HasNoBadEscape (encoded_name bs) (length (encoded_name bs)) → HasNoBadEscape (encoded_name (b ∷ bs)) (length (encoded_name (b ∷ bs)))
fine_step b bs true is none = rw is (none_later b (encoded_name bs) (plain_not b 37 is refl) none)
fine_step b bs false is none = rw is (escape_fine b (encoded_name bs) none)

pub none_bad : (bs : List ℕ) → HasNoBadEscape (encoded_name bs) (length (encoded_name bs))
none_bad [] = λ at below bad. absurd (omega (arith, below))
none_bad (b ∷ bs) = fine_step b bs (is_plain b) refl (none_bad bs)

-- ---- a name is what is read back

no_fault : (bytes : List ℕ) (f : NameFault) → IsFileName bytes → IsNameFault bytes f → ⊥
no_fault bytes Empty is fault = absurd (omega (arith, is.size, fault))
no_fault bytes Long is fault = absurd (omega (arith, is.size, fault))
no_fault bytes (NotUtf8 at) is fault = fault.1 is.text
no_fault bytes (Code at) is fault = fault.2.other (is.codes at fault.2.within)

pub reads_back : (bytes : List ℕ) (f : EscapeFault) → IsFileName bytes → All IsByte bytes → IsEscapeFault (encoded_name bytes) f → ⊥
reads_back bytes (Escape at) is small fault = none_bad bytes at fault.0.0 fault.0
reads_back bytes (Name f) is small fault = no_fault bytes f is (subst (λ b. IsNameFault b f) (decoded_back bytes small) fault.1)
