use Rattle.std.proofs.Common.{◌≢◌, ◌-◌, ◌≤◌, ◌<◌, ℕ}
use Rattle.name_rules.specs.InfoPairs.{lower, key_at}
use Rattle.name_rules.proofs.info.is_new.Given as goal

abbrev pub invariant-pairs : goal.invariant-pairs
invariant-pairs l = (l.i ≤ l.at) × ((j : ℕ) → j < l.i → lower (key_at l.pairs j) ≢ lower (key_at l.pairs l.at))

abbrev pub decreases-pairs : goal.decreases-pairs
decreases-pairs l = l.at - l.i
