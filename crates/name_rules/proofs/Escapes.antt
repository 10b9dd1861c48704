-- The set of bytes that the library escapes is that of the rule.
use Rattle.std.proofs.Common.{◌≡◌, ℕ, ◌<◌, ◌≤◌, ◌⊎◌, inl, inr, Bool, true, false, not, List, [], ◌∷◌, refl, ap, ◌∙◌, arith}
use Rattle.std.proofs.lemmas.Bool.{cases_lt, agree_below_at}
use Rattle.std.proofs.lemmas.Bool.Decides.{nat_tests}
use Rattle.percent_encoding.specs.AsciiSet.{should_percent_encode}
use Rattle.percent_encoding.specs.Percent.{percent_encode}
use Rattle.percent_encoding.proofs.PercentLemmas.{percent_encode-nil, percent_encode_kept, percent_encode_escaped}
use Rattle.name_rules.specs.declared.escape.TheConstants.{ESCAPED}
use Rattle.name_rules.specs.Escape.{is_plain, encoded_name}

escapes_by : (b : ℕ) → (b < 128) ⊎ (128 ≤ b) → should_percent_encode ESCAPED b ≡ not (is_plain b)
unfolding should_percent_encode
escapes_by b (inl small) = agree_below_at (λ b. should_percent_encode ESCAPED b) (λ b. not (is_plain b)) 128 b refl small
escapes_by b (inr large) = grind (arith, nat_tests, large)

escapes : (b : ℕ) → should_percent_encode ESCAPED b ≡ not (is_plain b)
escapes b = escapes_by b (cases_lt b 128)

step : (b : ℕ) (bs : List ℕ) (plain : Bool) → is_plain b ≡ plain → percent_encode ESCAPED bs ≡ encoded_name bs → percent_encode ESCAPED (b ∷ bs) ≡ encoded_name (b ∷ bs)
step b bs true is rest = percent_encode_kept ESCAPED b bs (escapes b ∙ ap not is) ∙ rw (is, rest) refl
step b bs false is rest = percent_encode_escaped ESCAPED b bs (escapes b ∙ ap not is) ∙ rw (is, rest) refl

pub percent_encode-is : (bs : List ℕ) → percent_encode ESCAPED bs ≡ encoded_name bs
percent_encode-is [] = percent_encode-nil ESCAPED
percent_encode-is (b ∷ bs) = step b bs (is_plain b) refl (percent_encode-is bs)
