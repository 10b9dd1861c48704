use Rattle.std.proofs.Common.{length, ◌-◌, ◌≤◌}
use Rattle.name_rules.specs.Decode.{HasNoBadEscape}
use Rattle.name_rules.proofs.decode.bad_escape.Given as goal

abbrev pub invariant-bytes : goal.invariant-bytes
invariant-bytes l = (l.at ≤ length l.bytes) × HasNoBadEscape l.bytes l.at

abbrev pub decreases-bytes : goal.decreases-bytes
decreases-bytes l = length l.bytes - l.at
