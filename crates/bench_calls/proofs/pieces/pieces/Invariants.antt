use Rattle.std.proofs.Common.{length, ◌-◌, ◌<◌, ◌≤◌, take}
use Rattle.http_edge.specs.declared.cut.Cut.TheVariants.{NotYet}
use Rattle.http_edge.specs.Cut.{IsCut}
use Rattle.bench_calls.proofs.pieces.pieces.Given as goal

abbrev pub invariant-bytes : goal.invariant-bytes
invariant-bytes l = record {
  order : l.seen ≤ l.came;
  within : l.came ≤ length l.bytes;
  none : 0 < l.seen → IsCut (take l.seen l.bytes) NotYet;
}

abbrev pub decreases-bytes : goal.decreases-bytes
decreases-bytes l = length l.bytes - l.came
