-- Numbers that texts spell.
use Rattle.std.specs.Prelude.{ℕ, zero, suc, ◌^◌, List, length, take, drop, Bool, Option, Some, None, if◌then◌else◌, bytes_eq, option_and_then}
use Rattle.std.specs.Option.{option_or}
use Rattle.b2_base.specs.Digits.{eight_digits, sixteen_digits}
use Rattle.b2_base.specs.BucketId.{bucket_id}
use Rattle.b2_base.specs.FileId.{file_id}
use Rattle.b2_types.specs.declared.record.VersionId.{VersionId}

-- the least number below this one that passes
unfoldable pub least : (ℕ → Bool) → ℕ → Option ℕ
least p zero = None
least p (suc n) = option_or (least p n) (if p n then Some n else None)

-- the number below the limit that has this spelling
unfoldable pub number_of : (ℕ → List ℕ) → ℕ → List ℕ → Option ℕ
number_of spell limit text = least (λ n. bytes_eq (spell n) text) limit

-- the bucket whose id the text is
abbrev pub bucket_of : List ℕ → Option ℕ
bucket_of text = number_of bucket_id (2 ^ 32) text

-- the file of this bucket whose id the text is
abbrev pub version_in : List ℕ → ℕ → Option VersionId
version_in text bucket = option_and_then (λ num. Some (record { bucket = bucket; num = num })) (number_of (λ num. file_id bucket num) (2 ^ 53) text)

-- the file whose id the text is: its bucket's digits stand after the first three bytes
abbrev pub file_of : List ℕ → Option VersionId
file_of text = option_and_then (version_in text) (number_of eight_digits (2 ^ 32) (take 8 (drop 3 text)))
