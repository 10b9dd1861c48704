use Rattle.std.proofs.Common.{◌≡◌, ◌+◌, ◌∷◌, take, true, false, sym, subst, ◌∙◌}
use Rattle.disk_model.specs.Changes.{changes_in}
use Rattle.disk_model.specs.Outcomes.{HasOutcomes}
use Rattle.disk_model.proofs.PastSteps.{changes_next}
use Rattle.disk_model.proofs.images.Outcomes.of.Goals as goal
use Rattle.disk_model.proofs.images.Outcomes.of.Goals.{then-is+in_ok-pass, else-is}

pub loop-one-preserved : goal.loop-one-preserved
loop-one-preserved c =
    let done = c.args.done.now in
    let i = c.loop-one.one-index in
    let next = changes_next done i c.one-item.result c.args.area in
    elim c.if-is.branch [
      | then-is+in_ok-pass w ↦
          let is : changes_in c.args.area (take (i + 1) done) ≡ c.one-item.result.change ∷ changes_in c.args.area (take i done) = next true c.loop-one-test.true c.one-item.is (sym c.is.ensures ∙ w.if-is.true) in
          subst (λ o. HasOutcomes (changes_in c.args.area (take (i + 1) done)) o) (sym w.outcomes-is)
          (subst (λ cs. HasOutcomes cs w.pass.new.self) (sym is) (w.in_ok-pass.ensures _ c.loop-one.invariant))
      | else-is w ↦
          let is : changes_in c.args.area (take (i + 1) done) ≡ changes_in c.args.area (take i done) = next false c.loop-one-test.true c.one-item.is (sym c.is.ensures ∙ w.if-is.false) in
          subst (λ o. HasOutcomes (changes_in c.args.area (take (i + 1) done)) o) (sym w.outcomes-is)
          (subst (λ cs. HasOutcomes cs c.loop-one.outcomes) (sym is) c.loop-one.invariant)
    ]
