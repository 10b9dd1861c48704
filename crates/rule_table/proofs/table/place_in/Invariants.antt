use Rattle.std.proofs.Common.{length, ◌-◌, ◌≤◌, ◌<◌, ℕ}
use Rattle.rule_table.specs.Rows.{texts, IsRow}
use Rattle.rule_table.proofs.table.place_in.Given as goal

abbrev pub invariant-rows : goal.invariant-rows
invariant-rows l = record {
  within : l.at ≤ length l.names;
  before : (i : ℕ) → i < l.at → IsRow (texts l.names) i l.name → ⊥;
}

abbrev pub decreases-rows : goal.decreases-rows
decreases-rows l = length l.names - l.at
