-- Products and sums that wrap.
use Rattle.std.proofs.Common.{◌≡◌, ℕ, ◌+◌, ◌*◌, ◌/◌, ◌%◌, sym, ap, ◌∙◌, arith}
use Rattle.std.proofs.Math.Nat.{add-mul-mod_self_left, mod-add-div}

-- a product may wrap before the sum does
pub wraps_once : (p b m : ℕ) → (p % m + b) % m ≡ (p + b) % m
wraps_once p b m =
    let whole = mod-add-div p m in
    let same : p % m + b + m * (p / m) ≡ p + b = omega (arith, whole) in
    sym (add-mul-mod_self_left (p % m + b) m (p / m)) ∙ ap (λ n. n % m) same
