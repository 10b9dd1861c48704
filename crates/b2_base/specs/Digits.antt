-- Numbers as lower-case hex digits of a fixed length.
use Rattle.std.specs.Prelude.{ℕ, List}
use Rattle.std.specs.Int.{w32, w64, to_be_bytes}
use Rattle.hex.specs.Hex.{encode_lower}

-- the eight digits of a number below 2^32
unfoldable pub eight_digits : ℕ → List ℕ
eight_digits n = encode_lower (to_be_bytes w32 n)

-- the sixteen digits of a number below 2^64
unfoldable pub sixteen_digits : ℕ → List ℕ
sixteen_digits n = encode_lower (to_be_bytes w64 n)
