use Rattle.std.proofs.Common.{◌≡◌, ◌∙◌, sym, subst, List, ℕ, Err, Ok, refl}
use Rattle.std.proofs.lemmas.Bool.{false≢true}
use Rattle.std.specs.Str.{IsUtf8}
use Rattle.std.proofs.lemmas.Str.{IsUtf8-from_ascii}
use Rattle.std.proofs.lemmas.Fmt.{IsAscii-decimal}
use Rattle.b2_base.specs.Decimal.{IsPlainNumeral}
use Rattle.b2_base.proofs.Numerals.{numeral_of_number, numeral_reads}
use Rattle.b2_base.proofs.decimal.read_decimal.Goals as goal

plain_along : (xs ys : List ℕ) → xs ≡ ys → IsPlainNumeral ys → IsPlainNumeral xs
plain_along xs ys same plain = subst IsPlainNumeral (sym same) plain

utf8_along : (xs ys : List ℕ) → xs ≡ ys → IsUtf8 ys → IsUtf8 xs
utf8_along xs ys same utf8 = subst IsUtf8 (sym same) utf8

pub returns-then-not-is_numeral : goal.returns-then-not-is_numeral
returns-then-not-is_numeral c = λ n small is. false≢true (c.if-not-is_numeral.ensures.1 (numeral_of_number n _ small is))

pub returns-in_default : goal.returns-in_default
returns-in_default c = λ n small is. c.in_default.ensures.cases.0 (utf8_along _ _ is (IsUtf8-from_ascii _ (IsAscii-decimal n small)))

pub returns-in_default-parse : goal.returns-in_default-parse
returns-in_default-parse c = λ n small is.
    let same = c.in-Ok.ensures.cases.0 in
    numeral_reads c.in-Ok.text.now (Err c.in_default-parse.field-0) (plain_along _ _ same (c.if-not-is_numeral.ensures.0 refl)) c.in_default-parse.ensures.value.0 n small (same ∙ is)

pub returns : goal.returns
returns c =
    let same = c.in-Ok.ensures.cases.0 in
    sym same ∙ numeral_reads {E = ℕ} c.in-Ok.text.now (Ok c.in-Ok-parse.number) (plain_along _ _ same (c.if-not-is_numeral.ensures.0 refl)) c.in-Ok-parse.ensures.value.0
