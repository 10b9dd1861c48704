use Rattle.std.proofs.Common.{◌≡◌, ◌-◌, ◌≤◌, length, drop}
use Rattle.b2_model.specs.Finish.{first_differing}
use Rattle.large_files.proofs.finish.first_differing.Given as goal

abbrev pub invariant-parts : goal.invariant-parts
invariant-parts l = record {
  within : l.at ≤ l.most;
  same : first_differing l.parts l.digests ≡ first_differing (drop l.at l.parts) (drop l.at l.digests);
}

abbrev pub decreases-parts : goal.decreases-parts
decreases-parts l = l.most - l.at
