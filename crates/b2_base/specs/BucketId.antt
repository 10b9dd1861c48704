-- The spelling of a bucket's id.
use Rattle.std.specs.Prelude.{ℕ, List, ◌++◌, codes}
use Rattle.b2_base.specs.Digits.{eight_digits}

-- the id of the bucket of this number: 24 digits
abbrev pub bucket_id : ℕ → List ℕ
bucket_id num = codes "0000000000000000" ++ eight_digits num
