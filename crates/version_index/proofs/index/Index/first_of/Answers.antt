use Rattle.std.proofs.Common.{true, false, sym, ◌∙◌}
use Rattle.version_index.specs.declared.spot.Spot.{Spot}
use Rattle.version_index.proofs.Seeks.{found_named, named_first, none_named, other_name}
use Rattle.version_index.proofs.index.Index.first_of.Goals as goal

pub returns-in_err-row-clause-row : goal.returns-in_err-row-clause-row
returns-in_err-row-clause-row g c =
    let none = rw c.in_err-row.was at c.seek.ensures.row in
    rw c.from_residual.ensures (sym (none_named c.args.s.now c.args.self.now c.requires.last c.seek.ensures.in_range (sym none)))

pub returns-then-eq-clause-row : goal.returns-then-eq-clause-row
returns-then-eq-clause-row g c =
    let found = rw c.in_ok-row.was at c.seek.ensures.row in
    let row : Spot × g.row.V.Denot = (c.in_ok-row.row.0.now, c.in_ok-row.row.1.now) in
    sym (named_first c.args.s.now c.args.self.now row c.requires.last c.seek.ensures.in_range (sym found) (found_named c.args.s.now c.args.self.now row (sym found) true (sym c.eq.ensures ∙ c.if-eq.true)))

pub returns-else-eq-clause-row : goal.returns-else-eq-clause-row
returns-else-eq-clause-row g c =
    let found = rw c.in_ok-row.was at c.seek.ensures.row in
    let row : Spot × g.row.V.Denot = (c.in_ok-row.row.0.now, c.in_ok-row.row.1.now) in
    sym (other_name c.args.s.now c.args.self.now row c.requires.last c.seek.ensures.ascending c.seek.ensures.in_range (sym found) (found_named c.args.s.now c.args.self.now row (sym found) false (sym c.eq.ensures ∙ c.if-eq.false)))
