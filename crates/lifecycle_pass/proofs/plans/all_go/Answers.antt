use Rattle.std.proofs.Common.{[], sym, arith}
use Rattle.lifecycle_pass.proofs.Walks.{gone_step, gone_step_past, gone_stop, all_gone}
use Rattle.lifecycle_pass.proofs.plans.all_go.Goals as goal
use Rattle.lifecycle_pass.proofs.plans.all_go.Goals.{then-not-is_start+else-not-goes_under, else-not-is_start}

pub loop-face-preserved : goal.loop-face-preserved
loop-face-preserved c =
    elim c.if-not-is_start.branch [
      | then-not-is_start+else-not-goes_under w ↦ gone_step c.args.t c.args.rule.now c.args.faces.now c.args.above [] c.loop-face.above c.loop-face.face-index [] c.face-item.result (omega arith) c.face-item.is w.if-not-is_start.ensures (sym w.if-not-goes_under.ensures) c.if-not-is_start.above w.above-is c.loop-face.invariant
      | else-not-is_start w ↦ gone_step_past c.args.t c.args.rule.now c.args.faces.now c.args.above [] c.loop-face.above c.loop-face.face-index [] c.face-item.result (omega arith) c.face-item.is w.if-not-is_start.ensures c.if-not-is_start.above w.above-is c.loop-face.invariant
    ]

pub returns : goal.returns
returns c = all_gone c.args.t c.args.rule.now c.args.faces.now c.args.above c.loop-face.above c.loop-face.face-index (omega arith) c.loop-face.invariant

pub returns-then-not-goes_under : goal.returns-then-not-goes_under
returns-then-not-goes_under c = gone_stop c.args.t c.args.rule.now c.args.faces.now c.args.above [] c.loop-face.above c.loop-face.face-index [] c.face-item.result (omega arith) c.face-item.is c.if-not-is_start.ensures (sym c.if-not-goes_under.ensures) c.loop-face.invariant
