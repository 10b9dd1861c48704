use Rattle.std.proofs.Common.{rules, ap, take, drop, ◌∙◌}
use Rattle.b2_types.specs.declared.record.ChangeOf.TheVariants as change
use Rattle.b2_model.specs.Plan.{id_of}
use Rattle.b2_model.specs.Stored.{record_at}
use Rattle.core_snapshots.proofs.Pieces.{one_piece}
use Rattle.core_snapshots.proofs.of_version.add_pieces.Goals as goal

pub loop-left-preserved : goal.loop-left-preserved
loop-left-preserved c =
    let v = c.args.version.now in
    one_piece (λ pieces. record_at v.stamp (change.SnapExtents (id_of v) pieces)) c.args.most c.loop-left.left.now c.split_at.result.0.now c.split_at.result.1.now _ _ _ c.requires (search rules) (c.split_at.ensures.front ∙ ap (λ n. take n c.loop-left.left.now) (search rules)) (c.split_at.ensures.back ∙ ap (λ n. drop n c.loop-left.left.now) (search rules)) c.in_ok-add_piece.ensures c.loop-left.invariant
