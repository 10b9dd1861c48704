use Rattle.std.proofs.Common.{◌≡◌, take}
use Rattle.core_records.specs.GivenUp.{Conserves}
use Rattle.core_records.specs.Steps.{without_numbers}
use Rattle.core_records.proofs.lifecycle.take_all.Given as goal

abbrev pub invariant-loop-num : goal.invariant-loop-num
invariant-loop-num l = record {
  state : l.core ≡ without_numbers l.bucket (take l.num-index l.nums) l.initial.core;
  freed : Conserves l.initial.freed.items l.initial.core l.freed.items l.core;
}
