use Rattle.std.proofs.Common.{◌≡◌, ℕ, List, Option, IfSome, Err, subst, sym, ◌∙◌, ap}
use Rattle.b2_base.specs.declared.failure.Or.{Or}
use Rattle.b2_base.specs.declared.failure.Or.TheVariants as or
use Rattle.event_script.specs.Script.{HasFirstWrong, CallsWrong}
use Rattle.event_script.specs.declared.script.ScriptFault.{ScriptFault}
use Rattle.b2_server.proofs.run.replay.Goals as goal

abbrev called : Option (List ℕ) → Or ScriptFault → Type 0
called left error = IfSome left (λ bytes. (number : ℕ) → HasFirstWrong bytes number → CallsWrong number (Err error))

abbrev names : Option (List ℕ) → ℕ → Type 0
names left called = IfSome left (λ bytes. (number : ℕ) → HasFirstWrong bytes number → called ≡ number)

pub returns-in-Err-Fault-BadLine-clause-wrong : goal.returns-in-Err-Fault-BadLine-clause-wrong
returns-in-Err-Fault-BadLine-clause-wrong g c =
    let bad = rw c.in-Err-Fault-BadLine.field-0-is at c.in-Err-Fault-BadLine.field-0-0-is in
    let left = g.S.Source.left c.args.script.now in
    subst (names left) (sym c.in-Err-Fault-BadLine.number-is)
    (subst (called left) (c.in-Err-Fault-BadLine.field-0-is ∙ ap (λ f. or.Fault f) bad) c.in-Err-Fault-BadLine.ensures.wrong)
