use Rattle.std.proofs.Common.{◌-◌, ℕ, ◌<◌, ◌≤◌}
use Rattle.rule_table.specs.declared.cap.TheConstants.{CAPS}
use Rattle.rule_table.specs.CapSet.{IsSet}
use Rattle.rule_table.proofs.cap_set.is_within.Given as goal

abbrev pub invariant-flags : goal.invariant-flags
invariant-flags l = record {
  within : l.at ≤ CAPS;
  before : (place : ℕ) → place < l.at → IsSet l.flags place → IsSet l.others place;
}

abbrev pub decreases-flags : goal.decreases-flags
decreases-flags l = CAPS - l.at
