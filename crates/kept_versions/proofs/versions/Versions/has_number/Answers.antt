use Rattle.std.proofs.Common.{◌==◌, ap, ◌∙◌}
use Rattle.std.specs.Option.{is_some}
use Rattle.std.specs.List.{list_any}
use Rattle.std.specs.Map.{lookup}
use Rattle.std.specs.BTreeMap.{is_at}
use Rattle.std.specs.Ordering.{nat_cmp}
use Rattle.index_rows.specs.OwnRows.{by_number}
use Rattle.kept_versions.proofs.Spots.{spot_any}
use Rattle.kept_versions.proofs.versions.Versions.has_number.Goals as goal

pub returns : goal.returns
returns c =
    c.contains_key.ensures ∙ ap (λ n. is_some (lookup (is_at (nat_cmp n)) c.self.inside.spots.entries)) c.get.ensures.value
    ∙ ap (λ es. is_some (lookup (is_at (nat_cmp c.args.num)) es)) c.self.invariant.are_spots
    ∙ spot_any c.args.num (by_number c.self.inside.index) ∙ ap (list_any (λ v. v.num == c.args.num)) c.self.view_is
