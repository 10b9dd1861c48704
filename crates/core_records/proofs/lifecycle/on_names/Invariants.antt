use Rattle.std.proofs.Common.{◌≡◌, IsSome, take, drop}
use Rattle.b2_base.specs.declared.numbers.TheConstants.{LAST_VERSION}
use Rattle.b2_model.specs.State.{bucket_at}
use Rattle.bucket_pass.specs.Changes.{after_changes}
use Rattle.core_records.specs.GivenUp.{Conserves}
use Rattle.core_records.specs.Steps.{HaveRoom}
use Rattle.core_records.proofs.lifecycle.on_names.Given as goal

abbrev pub invariant-plans : goal.invariant-plans
invariant-plans l = record {
  state : l.core ≡ after_changes l.t l.bucket (take l.plan-index l.plans) l.initial.core;
  room : HaveRoom LAST_VERSION l.core.next_version (drop l.plan-index l.plans);
  stands : IsSome (bucket_at l.core l.bucket);
  freed : Conserves l.initial.freed.items l.initial.core l.freed.items l.core;
}
