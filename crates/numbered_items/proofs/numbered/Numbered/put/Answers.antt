use Rattle.std.proofs.Common.{◌≡◌, ◌==◌, None, find, subst, sym, ap, ◌∙◌}
use Rattle.std.specs.Map.{values_of}
use Rattle.std.specs.Ordering.{nat_cmp}
use Rattle.std.specs.BTreeMap.{insert_entry}
use Rattle.b2_model.specs.Lists.{put_by}
use Rattle.numbered_items.specs.Entries.{AreUnder}
use Rattle.numbered_items.proofs.Entries.{inserted, under_inserted}
use Rattle.numbered_items.proofs.numbered.Numbered.put.Goals as goal

pub invariant_of-self-2 : goal.invariant_of-self-2
invariant_of-self-2 g c =
    let num = g.T.HasNumber.number_of in
    let is = subst (λ n. c.insert.new.self.entries ≡ insert_entry nat_cmp c.self.inside.items.entries n c.args.item) c.number-number.ensures c.in_ok-insert.ensures.entries in
    record {
      order = c.in_ok-insert.ensures.ordered;
      under = subst (AreUnder num) (sym is) (under_inserted num c.args.item c.self.inside.items.entries c.self.invariant.under);
    }

pub returns-clause-ok : goal.returns-clause-ok
returns-clause-ok g c =
    let num = g.T.HasNumber.number_of in
    let is = subst (λ n. c.insert.new.self.entries ≡ insert_entry nat_cmp c.self.inside.items.entries n c.args.item) c.number-number.ensures c.in_ok-insert.ensures.entries in
    let free = subst (λ xs. find (λ x. num x == num c.args.item) xs ≡ None) (sym c.self.view_is) c.requires.free in
    ap values_of is ∙ inserted num c.args.item c.self.inside.items.entries c.self.invariant.under free ∙ ap (put_by num c.args.item) c.self.view_is
