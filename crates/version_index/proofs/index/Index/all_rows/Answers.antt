use Rattle.std.proofs.Common.{◌≡◌, subst, ◌∙◌}
use Rattle.version_index.proofs.Walks.{all_kept}
use Rattle.version_index.proofs.index.Index.all_rows.Goals as goal

pub returns : goal.returns
returns g c = subst (λ rows. c.range.result ≡ rows) c.self.view_is (c.range.ensures.between tt ∙ all_kept c.self.inside.rows.entries)
