use Rattle.std.proofs.Common.{subst, sym, ◌∙◌}
use Rattle.index_rows.specs.OwnRows.{AreNumbered, AreRowsOf}
use Rattle.index_rows.proofs.Listed.{listed}
use Rattle.kept_versions.proofs.versions.Versions.index.Goals as goal

pub returns-clause-numbered : goal.returns-clause-numbered
returns-clause-numbered c = subst AreNumbered c.self.view_is c.self.invariant.numbered

pub returns-clause-listed : goal.returns-clause-listed
returns-clause-listed c = λ M bucket same.
    listed M c.self.inside.index bucket (subst AreNumbered (c.self.view_is ∙ sym same) c.self.invariant.numbered)
    (subst (λ vs. AreRowsOf vs c.self.inside.index) (c.self.view_is ∙ sym same) c.self.invariant.are_rows)
