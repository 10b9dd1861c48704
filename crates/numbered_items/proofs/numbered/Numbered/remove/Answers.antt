use Rattle.std.proofs.Common.{◌==◌, not, find, filter, subst, sym, ap, ◌∙◌}
use Rattle.std.specs.Map.{values_of}
use Rattle.numbered_items.specs.Entries.{AreUnder}
use Rattle.numbered_items.proofs.Entries.{found, removed, under_removed}
use Rattle.numbered_items.proofs.numbered.Numbered.remove.Goals as goal

pub invariant_of-self : goal.invariant_of-self
invariant_of-self g c = record {
  order = c.remove.ensures.ordered;
  under = subst (AreUnder g.T.HasNumber.number_of) (sym c.remove.ensures.entries) (under_removed g.T.HasNumber.number_of c.args.number c.self.inside.items.entries c.self.invariant.under);
}

pub returns-clause-value : goal.returns-clause-value
returns-clause-value g c =
    c.remove.ensures.value ∙ found g.T.HasNumber.number_of c.args.number c.self.inside.items.entries c.self.invariant.under
    ∙ ap (find (λ x. g.T.HasNumber.number_of x == c.args.number)) c.self.view_is

pub returns-clause-left : goal.returns-clause-left
returns-clause-left g c =
    ap values_of c.remove.ensures.entries
    ∙ removed g.T.HasNumber.number_of c.args.number c.self.inside.items.entries c.self.invariant.under c.self.invariant.order
    ∙ ap (filter (λ x. not (g.T.HasNumber.number_of x == c.args.number))) c.self.view_is
