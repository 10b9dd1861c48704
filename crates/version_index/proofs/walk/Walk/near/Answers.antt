use Rattle.std.proofs.Common.{◌≡◌, Some, subst, sym, ◌∙◌}
use Rattle.std.proofs.lemmas.Bool.{and_parts}
use Rattle.version_index.specs.declared.spot.Spot.{Spot}
use Rattle.version_index.specs.Rows.{first_from}
use Rattle.version_index.proofs.Walks.{behind_after, near_first}
use Rattle.version_index.proofs.walk.Walk.near.Goals as goal

pub invariant_of-self-then-not-first : goal.invariant_of-self-then-not-first
invariant_of-self-then-not-first g c =
    let row : Spot × g.row.V.Denot = (c.in_ok-row.row.0.now, c.in_ok-row.row.1.now) in
    let known = rw c.in_ok-last.was at c.self.invariant.1 in
    (c.self.invariant.0, behind_after c.in_ok-last.last.now c.self.inside.index.now row _ c.self.invariant.0 (sym known ∙ c.in_ok-row.ensures.steps))

pub invariant_of-self-2 : goal.invariant_of-self-2
invariant_of-self-2 g c =
    let row : Spot × g.row.V.Denot = (c.in_ok-row.row.0.now, c.in_ok-row.row.1.now) in
    let known = rw c.in_ok-last.was at c.self.invariant.1 in
    (c.self.invariant.0, behind_after c.in_ok-last.last.now c.self.inside.index.now row _ c.self.invariant.0 (sym known ∙ c.in_ok-row.ensures.steps))

pub returns-clause-first : goal.returns-clause-first
returns-clause-first g c =
    let row : Spot × g.row.V.Denot = (c.in_ok-row.row.0.now, c.in_ok-row.row.1.now) in
    let known = rw c.in_ok-last.was at c.self.invariant.1 in
    let both = and_parts c.lt.result c.le.result c.if-not-first.false in
    let found = near_first c.in_ok-last.last.now c.args.s.now c.self.inside.index.now row _ (sym known ∙ c.in_ok-row.ensures.steps) (sym c.lt.ensures ∙ both.0) (sym c.le.ensures ∙ both.1) in
    subst (λ rows. first_from c.args.s.now rows ≡ Some row) c.self.view_is found
