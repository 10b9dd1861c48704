use Rattle.std.proofs.Common.{◌==◌, find, ap, ◌∙◌}
use Rattle.numbered_items.proofs.Entries.{found}
use Rattle.numbered_items.proofs.numbered.Numbered.get.Goals as goal

pub returns : goal.returns
returns g c =
    c.get.ensures.value ∙ found g.T.HasNumber.number_of c.args.number c.self.inside.items.entries c.self.invariant.under
    ∙ ap (find (λ x. g.T.HasNumber.number_of x == c.args.number)) c.self.view_is
