use Rattle.std.proofs.Common.{◌≡◌, subst, sym, ◌∙◌}
use Rattle.version_index.specs.Rows.{AreInRange, without}
use Rattle.version_index.proofs.Changes.{in_range_without, removed}
use Rattle.version_index.proofs.index.Index.remove.Goals as goal

pub invariant_of-self : goal.invariant_of-self
invariant_of-self g c =
    (c.remove.ensures.ordered, subst AreInRange (sym (c.remove.ensures.entries ∙ removed c.args.s.now c.self.inside.rows.entries c.self.invariant.0)) (in_range_without c.args.s.now c.self.inside.rows.entries c.self.invariant.1))

pub returns-clause-rows : goal.returns-clause-rows
returns-clause-rows g c = subst (λ rows. c.remove.new.self.entries ≡ without c.args.s.now rows) c.self.view_is (c.remove.ensures.entries ∙ removed c.args.s.now c.self.inside.rows.entries c.self.invariant.0)
