use Rattle.std.proofs.Common.{refl}
use Rattle.worked_rows.proofs.Sha256OnLiterals.{sha256_on_literals}
use Rattle.worked_rows.proofs.keys.key_for_a_second.Goals as goal

pub returns-clause-secret : goal.returns-clause-secret
unfolding sha256_on_literals
returns-clause-secret c = refl

pub returns-clause-num : goal.returns-clause-num
unfolding sha256_on_literals
returns-clause-num c = refl

pub returns-clause-late : goal.returns-clause-late
unfolding sha256_on_literals
returns-clause-late c = refl
