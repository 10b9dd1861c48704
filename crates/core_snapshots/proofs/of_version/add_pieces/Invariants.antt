use Rattle.std.proofs.Common.{◌≡◌, ◌++◌, map, length}
use Rattle.b2_types.specs.declared.record.ChangeOf.TheVariants as change
use Rattle.b2_model.specs.Plan.{id_of}
use Rattle.b2_model.specs.Stored.{pieces_of, record_at}
use Rattle.core_snapshots.proofs.of_version.add_pieces.Given as goal

abbrev pub invariant-loop-left : goal.invariant-loop-left
invariant-loop-left l =
    l.records.items ++ map (λ pieces. record_at l.version.stamp (change.SnapExtents (id_of l.version) pieces)) (pieces_of (length l.left) l.most l.left)
    ≡ l.initial.records.items ++ map (λ pieces. record_at l.version.stamp (change.SnapExtents (id_of l.version) pieces)) (pieces_of (length l.initial.left) l.most l.initial.left)

abbrev pub decreases-loop-left : goal.decreases-loop-left
decreases-loop-left l = length l.left
