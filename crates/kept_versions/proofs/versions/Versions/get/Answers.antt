use Rattle.std.proofs.Common.{◌==◌, ◌&&◌, find, ap, ◌∙◌}
use Rattle.index_rows.specs.OwnRows.{by_number}
use Rattle.kept_versions.proofs.Steps.{got}
use Rattle.kept_versions.proofs.versions.Versions.get.Goals as goal

pub returns : goal.returns
returns c =
    let some = c.in_ok-spot.ensures (by_number c.self.inside.index) c.self.invariant.are_spots c.self.invariant.numbered in
    c.get.ensures ∙ got c.args.bucket c.args.num (by_number c.self.inside.index) c.self.inside.index c.in_ok-spot.spot.now c.self.invariant.are_rows some
    ∙ ap (find (λ v. v.bucket == c.args.bucket && v.num == c.args.num)) c.self.view_is
