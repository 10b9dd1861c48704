use Rattle.std.proofs.Common.{◌≡◌, None, subst, sym, ◌∙◌, ◌≤◌}
use Rattle.b2_base.specs.declared.numbers.TheConstants.{LAST_VERSION}
use Rattle.version_index.specs.Rows.{AreInRange, placed, value_at}
use Rattle.version_index.proofs.Changes.{in_range_placed, inserted}
use Rattle.version_index.proofs.index.Index.insert.Goals as goal

pub invariant_of-self : goal.invariant_of-self
invariant_of-self g c =
    let free = subst (λ rows. value_at c.args.s rows ≡ None) (sym c.self.view_is) c.requires.free in
    (c.in-Ok.ensures.ordered, subst AreInRange (sym (c.in-Ok.ensures.entries ∙ inserted c.args.s c.args.v c.self.inside.rows.entries free)) (in_range_placed c.args.s c.args.v c.self.inside.rows.entries (subst (λ n. n ≤ LAST_VERSION) c.get.ensures.value c.get.ensures.in_range) c.self.invariant.1))

pub returns-in-Ok-clause-ok : goal.returns-in-Ok-clause-ok
returns-in-Ok-clause-ok g c =
    let free = subst (λ rows. value_at c.args.s rows ≡ None) (sym c.self.view_is) c.requires.free in
    subst (λ rows. c.insert.new.self.entries ≡ placed (c.args.s, c.args.v) rows) c.self.view_is (c.in-Ok.ensures.entries ∙ inserted c.args.s c.args.v c.self.inside.rows.entries free)
