use Rattle.std.proofs.Common.{◌≤◌}
use Rattle.http_edge.proofs.Ends.{NoOther}
use Rattle.http_edge.proofs.cut.has_begun.Given as goal

abbrev pub invariant-back : goal.invariant-back
invariant-back l = record {
  within : l.from ≤ l.at;
  clean : NoOther l.bytes l.from l.at;
}

abbrev pub decreases-back : goal.decreases-back
decreases-back l = l.from
