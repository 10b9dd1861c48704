-- The numbers of a workload: a linear congruential sequence, and what is drawn of each of its numbers.
use Rattle.std.specs.Prelude.{ℕ, ◌+◌, ◌*◌, ◌/◌, ◌%◌, ◌^◌}

-- the number after this one
unfoldable pub next_number : ℕ → ℕ
next_number x = (6364136223846793005 * x + 1442695040888963407) % 2 ^ 64

-- its upper 31 bits
unfoldable pub drawn : ℕ → ℕ
drawn x = x / 2 ^ 33
