use Rattle.std.proofs.Common.{◌≡◌, ◌+◌, ◌-◌, ◌≤◌, length, drop}
use Rattle.b2_model.specs.Finish.{gap_from}
use Rattle.large_files.proofs.finish.gap_in.Given as goal

abbrev pub invariant-parts : goal.invariant-parts
invariant-parts l = record {
  within : l.at ≤ length l.parts;
  same : gap_from 1 l.parts ≡ gap_from (l.at + 1) (drop l.at l.parts);
}

abbrev pub decreases-parts : goal.decreases-parts
decreases-parts l = length l.parts - l.at
