use Rattle.std.proofs.Common.{◌==◌, nat_le, sym, ap, ◌∙◌}
use Rattle.std.specs.List.{list_any}
use Rattle.b2_base.specs.declared.extent.Extent.{Extent}
use Rattle.b2_types.specs.declared.version.VersionOf.{VersionOf}
use Rattle.version_index.specs.declared.spot.Spot.{Spot}
use Rattle.version_index.proofs.Seeks.{with_true}
use Rattle.index_rows.specs.OwnRows.{by_number}
use Rattle.index_rows.proofs.Listed.{some_order}
use Rattle.kept_versions.proofs.InBucket.{first_from, none_from}
use Rattle.kept_versions.proofs.versions.Versions.has_bucket.Goals as goal

pub returns-in-Some : goal.returns-in-Some
returns-in-Some c =
    let rows = c.self.inside.index in
    let row : Spot × VersionOf Extent = (c.in-Some.row.0.now, c.in-Some.row.1.now) in
    let first = sym c.from_bucket.ensures.rest ∙ c.in-Some.ensures.steps in
    let up = some_order (λ r. nat_le c.args.bucket r.0.bucket) rows c.self.invariant.are_rows.order in
    c.eq.ensures ∙ with_true (row.0.bucket == c.args.bucket)
    ∙ sym (first_from c.args.bucket (by_number rows) rows row c.next.new.self c.self.invariant.are_rows up first)
    ∙ ap (list_any (λ v. v.bucket == c.args.bucket)) c.self.view_is

pub returns-in-None : goal.returns-in-None
returns-in-None c =
    let rows = c.self.inside.index in
    sym (none_from c.args.bucket (by_number rows) rows c.self.invariant.are_rows (sym c.from_bucket.ensures.rest ∙ c.in-None.ensures.steps.0))
    ∙ ap (list_any (λ v. v.bucket == c.args.bucket)) c.self.view_is
