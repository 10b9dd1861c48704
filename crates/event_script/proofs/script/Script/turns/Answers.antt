use Rattle.std.proofs.Common.{length, ap, ◌∙◌, sym}
use Rattle.std.proofs.lemmas.List.{length-map}
use Rattle.event_script.specs.declared.script.Timed.{Timed}
use Rattle.event_script.proofs.script.Script.turns.Goals as goal

pub returns-clause-events : goal.returns-clause-events
returns-clause-events c = ap length c.deref-timed.ensures.value ∙ sym (length-map c.args.self.now.timed.items (λ (t : Timed). t.event))

pub returns-clause-readings : goal.returns-clause-readings
returns-clause-readings c = ap length c.deref-timed.ensures.value ∙ sym (length-map c.args.self.now.timed.items (λ (t : Timed). t.reading))
