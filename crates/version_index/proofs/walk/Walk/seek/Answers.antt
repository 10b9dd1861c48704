use Rattle.std.proofs.Common.{sym, ◌∙◌}
use Rattle.version_index.specs.declared.spot.Spot.{Spot}
use Rattle.version_index.proofs.Seeks.{with_true}
use Rattle.version_index.proofs.Walks.{no_row, row_here, row_past}
use Rattle.version_index.proofs.walk.Walk.seek.Goals as goal

pub returns-in_err-row-clause-row : goal.returns-in_err-row-clause-row
returns-in_err-row-clause-row g c =
    let none = rw c.in_err-row.was at c.first.ensures.first in
    rw c.from_residual.ensures (sym (no_row c.args.s.now c.args.self.now (sym none)))

pub returns-then-eq-clause-row : goal.returns-then-eq-clause-row
returns-then-eq-clause-row g c =
    let found = rw c.in_ok-row.was at c.first.ensures.first in
    let row : Spot × g.row.V.Denot = (c.in_ok-row.row.0.now, c.in_ok-row.row.1.now) in
    sym (row_here c.args.s.now c.args.self.now row (sym found) (sym (with_true _) ∙ sym c.eq.ensures ∙ c.if-eq.true))

pub returns-else-eq-clause-row : goal.returns-else-eq-clause-row
returns-else-eq-clause-row g c =
    let found = rw c.in_ok-row.was at c.first.ensures.first in
    let row : Spot × g.row.V.Denot = (c.in_ok-row.row.0.now, c.in_ok-row.row.1.now) in
    sym (row_past c.args.s.now c.args.self.now row c.first.ensures.ascending (sym found) (sym (with_true _) ∙ sym c.eq.ensures ∙ c.if-eq.false))
