use Rattle.wire_laws.proofs.Answers.{tells}
use Rattle.wire_laws.proofs.laws.told_answers.Goals as goal

pub returns-clause-tells : goal.returns-clause-tells
returns-clause-tells c = tells
