use Rattle.std.proofs.Common.{◌≡◌, None, Some, subst, sym, ◌∙◌}
use Rattle.version_index.specs.declared.spot.Spot.{Spot}
use Rattle.version_index.specs.Rows.{row_from}
use Rattle.version_index.proofs.Seeks.{first_from, none_from, past_bucket, with_true}
use Rattle.version_index.proofs.index.Index.seek.Goals as goal

pub returns-in_err-row-clause-row : goal.returns-in_err-row-clause-row
returns-in_err-row-clause-row g c =
    let none = none_from c.args.s.now c.self.inside.rows.entries (sym (c.range.ensures.between tt) ∙ c.in_err-row.ensures.steps.0) in
    rw c.from_residual.ensures (subst (λ rows. None ≡ row_from c.args.s.now rows) c.self.view_is (sym none))

pub returns-then-eq-clause-row : goal.returns-then-eq-clause-row
returns-then-eq-clause-row g c =
    let row : Spot × g.row.V.Denot = (c.in_ok-row.row.0.now, c.in_ok-row.row.1.now) in
    let found = first_from c.args.s.now c.self.inside.rows.entries row _ (sym (c.range.ensures.between tt) ∙ c.in_ok-row.ensures.steps) (sym (with_true _) ∙ sym c.eq.ensures ∙ c.if-eq.true) in
    subst (λ rows. Some row ≡ row_from c.args.s.now rows) c.self.view_is (sym found)

pub returns-else-eq-clause-row : goal.returns-else-eq-clause-row
returns-else-eq-clause-row g c =
    let row : Spot × g.row.V.Denot = (c.in_ok-row.row.0.now, c.in_ok-row.row.1.now) in
    let none = past_bucket c.args.s.now c.self.inside.rows.entries row _ c.self.invariant.0 (sym (c.range.ensures.between tt) ∙ c.in_ok-row.ensures.steps) (sym (with_true _) ∙ sym c.eq.ensures ∙ c.if-eq.false) in
    subst (λ rows. None ≡ row_from c.args.s.now rows) c.self.view_is (sym none)
