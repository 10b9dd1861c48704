-- How a name is read from a path.
use Rattle.std.specs.Prelude.{◌≡◌, ℕ, ◌+◌, ◌<◌, ◌==◌, IsTrue, List, length, map, if◌then◌else◌, slice_index}
use Rattle.std.specs.Char.{is_ascii_hexdigit}
use Rattle.percent_encoding.specs.Percent.{percent_decode}
use Rattle.name_rules.specs.FileName.{IsNameFault}
use Rattle.name_rules.specs.declared.decode.EscapeFault.{EscapeFault}
use Rattle.name_rules.specs.declared.decode.EscapeFault.TheVariants.{Escape, Name}

-- two hex digits follow the byte at this place
pub record HasDigitsBehind (bytes : List ℕ) (at : ℕ) : Type 0 where
  pub within : at + 2 < length bytes
  pub high : IsTrue (is_ascii_hexdigit (slice_index bytes (at + 1)))
  pub low : IsTrue (is_ascii_hexdigit (slice_index bytes (at + 2)))

-- a percent sign without two hex digits after it
abbrev pub IsBadEscape : List ℕ → ℕ → Type 0
IsBadEscape bytes at = (at < length bytes) × (slice_index bytes at ≡ 37) × (HasDigitsBehind bytes at → ⊥)

abbrev pub HasNoBadEscape : List ℕ → ℕ → Type 0
HasNoBadEscape bytes end = (at : ℕ) → at < end → IsBadEscape bytes at → ⊥

abbrev pub plus_to_space : ℕ → ℕ
plus_to_space byte = if byte == 43 then 32 else byte

-- a plus is a space, and an escape the byte that its digits are
abbrev pub decoded_name : List ℕ → List ℕ
decoded_name bytes = percent_decode (map plus_to_space bytes)

-- why the bytes are no escaped name
abbrev pub IsEscapeFault : List ℕ → EscapeFault → Type 0
IsEscapeFault bytes (Escape at) = IsBadEscape bytes at × HasNoBadEscape bytes at
IsEscapeFault bytes (Name fault) = HasNoBadEscape bytes (length bytes) × IsNameFault (decoded_name bytes) fault
