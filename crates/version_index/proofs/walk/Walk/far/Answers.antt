use Rattle.std.proofs.Common.{◌≡◌, None, Some, subst, sym, ◌∙◌}
use Rattle.version_index.specs.declared.spot.Spot.{Spot}
use Rattle.version_index.specs.Rows.{first_from}
use Rattle.version_index.proofs.Walks.{behind_from, found_first, found_none}
use Rattle.version_index.proofs.walk.Walk.far.Goals as goal

pub returns-in_err-row-clause-first : goal.returns-in_err-row-clause-first
returns-in_err-row-clause-first g c =
    let none = found_none c.args.s.now c.self.inside.index.now (sym c.rows_from-self-inside.ensures.rest ∙ c.in_err-row.ensures.steps.0) in
    rw c.from_residual.ensures (subst (λ rows. None ≡ first_from c.args.s.now rows) c.self.view_is (sym none))

pub invariant_of-self-2 : goal.invariant_of-self-2
invariant_of-self-2 g c =
    let row : Spot × g.row.V.Denot = (c.in_ok-row.row.0.now, c.in_ok-row.row.1.now) in
    let behind = behind_from c.args.s.now c.self.inside.index.now row _ c.rows_from-self-inside.ensures.ascending (sym c.rows_from-self-inside.ensures.rest ∙ c.in_ok-row.ensures.steps) in
    (c.rows_from-self-inside.ensures.ascending, behind)

pub returns-clause-first : goal.returns-clause-first
returns-clause-first g c =
    let row : Spot × g.row.V.Denot = (c.in_ok-row.row.0.now, c.in_ok-row.row.1.now) in
    let found = found_first c.args.s.now c.self.inside.index.now row _ (sym c.rows_from-self-inside.ensures.rest ∙ c.in_ok-row.ensures.steps) in
    subst (λ rows. Some row ≡ first_from c.args.s.now rows) c.self.view_is (sym found)
