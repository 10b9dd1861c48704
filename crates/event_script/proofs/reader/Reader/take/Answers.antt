use Rattle.std.proofs.Common.{◌+◌, length, refl, sym, ◌∙◌, arith}
use Rattle.event_script.proofs.Pushes.{wrong_behind, wrong_ready, goes_on, each_last}
use Rattle.event_script.specs.Line.{Fits}
use Rattle.event_script.proofs.reader.Reader.take.Goals as goal

pub returns-then-self-clause-wrong : goal.returns-then-self-clause-wrong
returns-then-self-clause-wrong c = λ before so_far line is. wrong_behind before c.args.self.now so_far c.if-self.true line

pub returns-in-Err-Fault-clause-wrong : goal.returns-in-Err-Fault-clause-wrong
returns-in-Err-Fault-clause-wrong c = λ before so_far line is beginning.
    let no_line = rw c.in-Err-Fault.field-0-is at c.in-Err-Fault.ensures in
    no_line line (each_last Fits before line beginning.each) is

pub returns-clause-ok : goal.returns-clause-ok
returns-clause-ok c = λ before so_far.
    let line = c.in-Ok.ensures.0 in (
      line,
      c.in-Ok.ensures.2,
      goes_on before c.args.self.now c.add.new.self c.in-Ok.said line c.args.text.now (c.args.self.now.ready + c.ready_in.result) (c.args.self.now.size + length c.args.text.now + 1)
          so_far c.if-self.false c.in-Ok.ensures.1 c.in-Ok.ensures.3 c.in-Ok.ensures.2 (omega (arith, c.ready_in.ensures.count)) (omega arith) refl (omega arith) c.in_ok-add.ensures,
    )

pub returns-then-ready-gt-MOST_READY-clause-wrong : goal.returns-then-ready-gt-MOST_READY-clause-wrong
returns-then-ready-gt-MOST_READY-clause-wrong c = λ before so_far line is.
    wrong_ready before c.args.self.now c.in-Ok.said c.in-Ok.ensures.0 so_far c.in-Ok.ensures.1 c.in-Ok.ensures.3 (omega (arith, c.ready_in.ensures.count)) line (sym c.in-Ok.ensures.2 ∙ is)
