use Rattle.std.proofs.Common.{refl}
use Rattle.worked_rows.proofs.Sha256OnLiterals.{sha256_on_literals}
use Rattle.worked_rows.proofs.keys.deletion_of_keys.Goals as goal

pub returns-clause-master : goal.returns-clause-master
unfolding sha256_on_literals
returns-clause-master c = refl

pub returns-clause-other : goal.returns-clause-other
unfolding sha256_on_literals
returns-clause-other c = refl

pub returns-clause-gone : goal.returns-clause-gone
unfolding sha256_on_literals
returns-clause-gone c = refl
