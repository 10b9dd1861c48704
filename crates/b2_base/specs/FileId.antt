-- The spelling of a file's id.
use Rattle.std.specs.Prelude.{◌≡◌, ℕ, List, ◌++◌, length, codes}
use Rattle.b2_base.specs.Digits.{eight_digits, sixteen_digits}

-- an id with these digits
abbrev pub id_text : List ℕ → List ℕ → List ℕ
id_text bucket version = codes "4_z" ++ bucket ++ codes "_f" ++ version

-- the id of the version of this number in this bucket
abbrev pub file_id : ℕ → ℕ → List ℕ
file_id bucket version = id_text (eight_digits bucket) (sixteen_digits version)

-- the bytes are an id with so many digits
pub record IsIdOf (bytes bucket version : List ℕ) : Type 0 where
  pub text : bytes ≡ id_text bucket version
  pub bucket_len : length bucket ≡ 8
  pub version_len : length version ≡ 16
