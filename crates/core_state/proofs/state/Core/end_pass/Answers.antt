use Rattle.std.proofs.Common.{ℕ, ◌/◌, ap, ◌∙◌}
use Rattle.b2_model.specs.Kinds.{day}
use Rattle.core_state.specs.View.{state_of}
use Rattle.core_state.specs.declared.parts.Parts.{Parts}
use Rattle.core_state.proofs.PassSteps.{ended, ended_at}
use Rattle.core_state.proofs.state.Core.end_pass.Goals as goal

pub invariant_of-self : goal.invariant_of-self
invariant_of-self c =
    let p = c.self.inside.parts in
    let t = c.args.t in
    let T = c.sweep.new.self in
    let with_day : ℕ → Parts = λ n. record p { now = t; kept = t; pass_day = n / day; tokens = T } in
    (ended p (with_day c.get.result) t T c.self.invariant (c.sweep.ensures (state_of p) c.self.invariant.tokens) (ap with_day c.get.ensures.value)).whole

pub returns : goal.returns
returns c =
    let p = c.self.inside.parts in
    let t = c.args.t in
    let T = c.sweep.new.self in
    let with_day : ℕ → Parts = λ n. record p { now = t; kept = t; pass_day = n / day; tokens = T } in
    (ended p (with_day c.get.result) t T c.self.invariant (c.sweep.ensures (state_of p) c.self.invariant.tokens) (ap with_day c.get.ensures.value)).state
    ∙ ap (ended_at t) c.self.view_is
