use Rattle.std.proofs.Common.{◌-◌, ◌≤◌, ◌≡◌, min, length}
use Rattle.http_edge.specs.Cut.{NoEnd}
use Rattle.http_edge.proofs.cut.cut_head.Given as goal

abbrev pub invariant-lines : goal.invariant-lines
invariant-lines l = record {
  limit : l.limit ≡ min (length l.bytes) 16384;
  within : l.at ≤ l.limit;
  none : NoEnd l.bytes l.at;
}

abbrev pub decreases-lines : goal.decreases-lines
decreases-lines l = l.limit - l.at
