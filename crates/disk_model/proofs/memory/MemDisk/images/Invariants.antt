use Rattle.std.proofs.Common.{◌≡◌, ◌-◌, ◌≤◌}
use Rattle.disk_model.specs.Changes.{images_of}
use Rattle.disk_model.proofs.memory.MemDisk.images.Given as goal

abbrev pub invariant-loop-call : goal.invariant-loop-call
invariant-loop-call l = record {
  so_far : l.images.items ≡ images_of l.self.done.items l.since (l.call - l.since);
  no_more : l.call - l.since ≤ l.self.calls.made - l.since;
}
