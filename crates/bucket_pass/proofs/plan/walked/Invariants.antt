use Rattle.std.proofs.Common.{◌≡◌}
use Rattle.std.specs.Prelude.{option_map}
use Rattle.version_index.specs.Rows.{AreAscending}
use Rattle.index_rows.specs.OwnRows.{of_bucket}
use Rattle.bucket_pass.specs.Walked.{Stands}
use Rattle.bucket_pass.proofs.Rows.{AreFrom}
use Rattle.bucket_pass.proofs.plan.walked.Given as goal

abbrev pub invariant-loop-spot : goal.invariant-loop-spot
invariant-loop-spot l = record {
  stands : Stands l.t l.bucket l.last l.next (of_bucket l.bucket.num l.index) (of_bucket l.bucket.num l.spot-iterator) (option_map (λ n. n.now) l.walk.name) l.walk.faces.items l.walk.next l.walk.changes.items;
  up : AreAscending l.spot-iterator;
  from : AreFrom l.bucket.num l.spot-iterator;
}
