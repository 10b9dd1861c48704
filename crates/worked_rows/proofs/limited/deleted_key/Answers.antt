use Rattle.std.proofs.Common.{refl}
use Rattle.worked_rows.proofs.Sha256OnLiterals.{sha256_on_literals}
use Rattle.worked_rows.proofs.limited.deleted_key.Goals as goal

pub returns-clause-keys : goal.returns-clause-keys
unfolding sha256_on_literals
returns-clause-keys c = refl

pub returns-clause-after : goal.returns-clause-after
unfolding sha256_on_literals
returns-clause-after c = refl
