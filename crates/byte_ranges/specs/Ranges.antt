-- Ranges of bytes as texts (RFC 9110, section 14.1.2).
use Rattle.std.specs.Prelude.{◌≡◌, ◌≤◌, ℕ, true, nat_le, List, [], ◌∷◌, ◌++◌, ◌==◌, codes, Option, Some, None, option_map, option_and_then, if◌then◌else◌}
use Rattle.std.specs.Str.Parse.{digits_value}
use Rattle.b2_base.specs.Decimal.{has_digits}
use Rattle.b2_types.specs.declared.call.ByteRange.{ByteRange}
use Rattle.b2_types.specs.declared.call.ByteRange.TheVariants.{Between, From, Last}

-- the unit of all ranges, and what stands after it
abbrev pub unit : List ℕ
unit = codes "bytes="

-- 1 to 18 digits, leading zeros among them, write this number
abbrev pub IsNumber : List ℕ → ℕ → Type 0
IsNumber text n = (has_digits 18 text ≡ true) × (n ≡ digits_value 10 text)

-- the text is this range: a first place and a last, which isn't before it; a first place; or how many at the end
abbrev pub IsRange : List ℕ → ByteRange → Type 0
IsRange text (Between a b) = (first : List ℕ) × (last : List ℕ) × IsNumber first a × IsNumber last b × (a ≤ b) × (text ≡ unit ++ (first ++ 45 ∷ last))
IsRange text (From a) = (first : List ℕ) × IsNumber first a × (text ≡ unit ++ (first ++ 45 ∷ []))
IsRange text (Last n) = (last : List ℕ) × IsNumber last n × (text ≡ unit ++ (45 ∷ last))

-- ---- the range of a text

abbrev pub number : List ℕ → Option ℕ
number text = if has_digits 18 text then Some (digits_value 10 text) else None

-- what follows the front
abbrev pub after : List ℕ → List ℕ → Option (List ℕ)
after [] text = Some text
after (p ∷ ps) [] = None
after (p ∷ ps) (b ∷ bs) = if b == p then after ps bs else None

abbrev pub with_byte : ℕ → List ℕ × List ℕ → List ℕ × List ℕ
with_byte b p = (b ∷ p.0, p.1)

-- what stands before and after the first hyphen
abbrev pub halves : List ℕ → Option (List ℕ × List ℕ)
halves [] = None
halves (b ∷ bs) = if b == 45 then Some ([], bs) else option_map (with_byte b) (halves bs)

abbrev pub in_order : ℕ → ℕ → Option ByteRange
in_order a b = if nat_le a b then Some (Between a b) else None

abbrev pub range_at : List ℕ → List ℕ → Option ByteRange
range_at [] last = option_map Last (number last)
range_at (b ∷ bs) [] = option_map From (number (b ∷ bs))
range_at (b ∷ bs) (c ∷ cs) = option_and_then (λ first. option_and_then (in_order first) (number (c ∷ cs))) (number (b ∷ bs))

abbrev pub range_of : List ℕ → Option ByteRange
range_of text = option_and_then (λ rest. option_and_then (λ p. range_at p.0 p.1) (halves rest)) (after unit text)
