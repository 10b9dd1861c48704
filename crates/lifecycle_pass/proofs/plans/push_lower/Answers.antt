use Rattle.std.proofs.Common.{true, false, sym, ap, ◌∙◌, arith}
use Rattle.std.proofs.lemmas.List.{append-nil}
use Rattle.lifecycle_pass.proofs.Walks.{step_past, step_more, all_pushed}
use Rattle.lifecycle_pass.proofs.plans.push_lower.Goals as goal
use Rattle.lifecycle_pass.proofs.plans.push_lower.Goals.{then-not-is_start, else-not-is_start, then-goes_under+in_ok-push, else-goes_under}

pub loop-face-preserved : goal.loop-face-preserved
loop-face-preserved c =
    elim c.if-not-is_start.branch [
      | then-not-is_start w ↦ elim w.if-goes_under.branch [
        | then-goes_under+in_ok-push u ↦ step_more c.args.t c.args.rule.now c.args.faces.now c.args.above c.args.gone.now.items c.loop-face.above c.loop-face.face-index c.loop-face.gone.items c.face-item.result (omega arith) c.face-item.is w.if-not-is_start.ensures true (sym u.if-goes_under.ensures) c.if-not-is_start.above c.if-not-is_start.gone.items (ap (λ v. v.items) w.gone-is ∙ ap (λ v. v.items) u.gone-is ∙ u.in_ok-push.ensures.items) w.above-is c.loop-face.invariant
        | else-goes_under u ↦ step_more c.args.t c.args.rule.now c.args.faces.now c.args.above c.args.gone.now.items c.loop-face.above c.loop-face.face-index c.loop-face.gone.items c.face-item.result (omega arith) c.face-item.is w.if-not-is_start.ensures false (sym u.if-goes_under.ensures) c.if-not-is_start.above c.if-not-is_start.gone.items (ap (λ v. v.items) w.gone-is ∙ ap (λ v. v.items) u.gone-is ∙ sym (append-nil c.loop-face.gone.items)) w.above-is c.loop-face.invariant
      ]
      | else-not-is_start w ↦ step_past c.args.t c.args.rule.now c.args.faces.now c.args.above c.args.gone.now.items c.loop-face.above c.loop-face.face-index c.loop-face.gone.items c.face-item.result (omega arith) c.face-item.is w.if-not-is_start.ensures c.if-not-is_start.above c.if-not-is_start.gone.items (ap (λ v. v.items) w.gone-is) w.above-is c.loop-face.invariant
    ]

pub returns : goal.returns
returns c = all_pushed c.args.t c.args.rule.now c.args.faces.now c.args.above c.args.gone.now.items c.loop-face.above c.loop-face.face-index c.loop-face.gone.items (omega arith) c.loop-face.invariant
