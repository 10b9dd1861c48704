use Rattle.wire_laws.proofs.Refusals.{tells_refusal}
use Rattle.wire_laws.proofs.laws.told_refusals.Goals as goal

pub returns-clause-tells : goal.returns-clause-tells
returns-clause-tells c = tells_refusal
