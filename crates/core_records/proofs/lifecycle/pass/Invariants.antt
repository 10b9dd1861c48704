use Rattle.std.proofs.Common.{◌≡◌, ◌-◌, ◌≤◌, [], length, drop}
use Rattle.machine_laws.proofs.PassKeeps.{pass_each}
use Rattle.core_records.specs.GivenUp.{Conserves}
use Rattle.core_records.proofs.lifecycle.pass.Given as goal

abbrev pub invariant-buckets : goal.invariant-buckets
invariant-buckets l = record {
  within : l.at ≤ length l.initial.core.buckets;
  left : pass_each l.t (drop l.at l.initial.core.buckets) l.core ≡ pass_each l.t l.initial.core.buckets l.initial.core;
  same : l.core.buckets ≡ l.initial.core.buckets;
  freed : Conserves [] l.initial.core l.freed.items l.core;
}

abbrev pub decreases-buckets : goal.decreases-buckets
decreases-buckets l = length l.initial.core.buckets - l.at
