-- Texts of decimal digits.
use Rattle.std.specs.Prelude.{◌≡◌, ◌<◌, ℕ, Bool, ◌&&◌, nat_le, List, length, slice_index, EachIndex}
use Rattle.std.specs.Int.{IsInRange}
use Rattle.std.specs.Str.{all_ascii_digits}

-- at least one digit and at most so many, leading zeros among them
abbrev pub has_digits : ℕ → List ℕ → Bool
has_digits most text = (nat_le 1 (length text) && nat_le (length text) most) && all_ascii_digits text

-- digits with no leading zero, but for 0 itself
pub record IsPlainNumeral (text : List ℕ) : Type 0 where
  pub some : 0 < length text
  pub digits : EachIndex text (λ i. IsInRange 48 57 (slice_index text i))
  pub leading : slice_index text 0 ≡ 48 → length text ≡ 1
