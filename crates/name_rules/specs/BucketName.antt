-- Names of buckets (the B2 reference, "Buckets").
use Rattle.std.specs.Prelude.{◌≡◌, ℕ, ◌<◌, ◌≤◌, List, length, map, take, codes, EachIndex, slice_index, IsTrue, ◌||◌, ◌==◌}
use Rattle.std.specs.Char.{is_ascii_alphanumeric, to_ascii_lowercase}
use Rattle.name_rules.specs.Bytes.{IsFirstOther}
use Rattle.name_rules.specs.declared.bucket.TheConstants.{LEAST_BUCKET_NAME, MOST_BUCKET_NAME}
use Rattle.name_rules.specs.declared.bucket.BucketFault.{BucketFault}
use Rattle.name_rules.specs.declared.bucket.BucketFault.TheVariants.{Short, Long, Reserved, Char}

-- an ASCII letter, a digit or a hyphen
abbrev pub IsBucketByte : ℕ → Type 0
IsBucketByte byte = IsTrue (is_ascii_alphanumeric byte || byte == 45)

-- begins with b2- in any case
abbrev pub IsReserved : List ℕ → Type 0
IsReserved bytes = map to_ascii_lowercase (take 3 bytes) ≡ codes "b2-"

-- 6 to 63 bytes, not reserved
pub record HasShape (bytes : List ℕ) : Type 0 where
  pub least : LEAST_BUCKET_NAME ≤ length bytes
  pub most : length bytes ≤ MOST_BUCKET_NAME
  pub free : IsReserved bytes → ⊥

abbrev pub IsBucketName : List ℕ → Type 0
IsBucketName bytes = HasShape bytes × EachIndex bytes (λ i. IsBucketByte (slice_index bytes i))

-- why the bytes are no name
abbrev pub IsBucketFault : List ℕ → BucketFault → Type 0
IsBucketFault bytes Short = length bytes < LEAST_BUCKET_NAME
IsBucketFault bytes Long = MOST_BUCKET_NAME < length bytes
IsBucketFault bytes Reserved = (LEAST_BUCKET_NAME ≤ length bytes) × (length bytes ≤ MOST_BUCKET_NAME) × IsReserved bytes
IsBucketFault bytes (Char at) = HasShape bytes × IsFirstOther IsBucketByte bytes at
