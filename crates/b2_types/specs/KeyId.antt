-- The ids of application keys. This spelling is the store's own.
use Rattle.std.specs.Prelude.{ℕ, List, ◌++◌, ◌==◌, codes, if◌then◌else◌}
use Rattle.b2_base.specs.Digits.{eight_digits}

-- the account's id for the master key; else `001`, the account's id and ten hex digits of the number
abbrev pub key_id : List ℕ → ℕ → List ℕ
key_id account num = if num == 0 then account else codes "001" ++ account ++ codes "00" ++ eight_digits num
