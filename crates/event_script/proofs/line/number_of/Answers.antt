use Rattle.std.proofs.Common.{arith}
use Rattle.event_script.proofs.Numerals.{narrow}
use Rattle.event_script.proofs.line.number_of.Goals as goal

pub returns : goal.returns
returns c = narrow c.args.text.now c.in_ok-number.number c.try_from.result c.ok.result (omega arith) (c.in_ok-number.ensures) c.try_from.ensures c.ok.ensures.value
