-- Names of files (the B2 reference, "Files").
use Rattle.std.specs.Prelude.{◌≡◌, ◌≢◌, ℕ, ◌<◌, ◌≤◌, List, length, EachIndex, slice_index}
use Rattle.std.specs.Str.{IsUtf8, IsValidUpTo}
use Rattle.name_rules.specs.Bytes.{IsFirstOther}
use Rattle.name_rules.specs.declared.file.TheConstants.{MOST_FILE_NAME}
use Rattle.name_rules.specs.declared.file.NameFault.{NameFault}
use Rattle.name_rules.specs.declared.file.NameFault.TheVariants.{Empty, Long, NotUtf8, Code}

-- no control code of ASCII
abbrev pub IsNoCode : ℕ → Type 0
IsNoCode byte = (32 ≤ byte) × (byte ≢ 127)

abbrev pub HasLength : List ℕ → Type 0
HasLength bytes = (1 ≤ length bytes) × (length bytes ≤ MOST_FILE_NAME)

-- 1 to 1,024 bytes of UTF-8 without control codes
pub record IsFileName (bytes : List ℕ) : Type 0 where
  pub size : HasLength bytes
  pub text : IsUtf8 bytes
  pub codes : EachIndex bytes (λ i. IsNoCode (slice_index bytes i))

-- why the bytes are no name
abbrev pub IsNameFault : List ℕ → NameFault → Type 0
IsNameFault bytes Empty = length bytes ≡ 0
IsNameFault bytes Long = MOST_FILE_NAME < length bytes
IsNameFault bytes (NotUtf8 at) = HasLength bytes × (IsUtf8 bytes → ⊥) × IsValidUpTo bytes at
IsNameFault bytes (Code at) = HasLength bytes × IsUtf8 bytes × IsFirstOther IsNoCode bytes at
