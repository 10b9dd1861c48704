-- How a file's name is written in a path.
use Rattle.std.specs.Prelude.{ℕ, Bool, ◌||◌, ◌==◌, List, [], ◌∷◌, if◌then◌else◌, codes, IsTrue}
use Rattle.std.specs.List.{flat_map, list_any}
use Rattle.std.specs.Char.{is_ascii_alphanumeric}
use Rattle.percent_encoding.specs.Percent.{percent_encode_byte}

-- the byte stands for itself
abbrev pub is_plain : ℕ → Bool
is_plain byte = is_ascii_alphanumeric byte || list_any (λ mark. mark == byte) (codes "._-/~!$'()*;=:@")

-- every other byte is a percent sign and two upper-case hex digits
abbrev pub escaped_byte : ℕ → List ℕ
escaped_byte byte = if is_plain byte then byte ∷ [] else percent_encode_byte byte

abbrev pub encoded_name : List ℕ → List ℕ
encoded_name bytes = flat_map escaped_byte bytes

-- a byte that stands for itself, or a percent sign
abbrev pub IsSent : ℕ → Type 0
IsSent byte = IsTrue (is_plain byte || byte == 37)
