use Rattle.std.proofs.Common.{◌≡◌, ◌-◌, ◌≤◌, length, drop}
use Rattle.b2_model.specs.Finish.{first_small}
use Rattle.new_versions.specs.Decided.{extent_len}
use Rattle.large_files.proofs.finish.first_small.Given as goal

abbrev pub invariant-parts : goal.invariant-parts
invariant-parts l = record {
  within : l.at ≤ length l.parts;
  same : first_small extent_len l.least l.parts ≡ first_small extent_len l.least (drop l.at l.parts);
}

abbrev pub decreases-parts : goal.decreases-parts
decreases-parts l = length l.parts - l.at
