use Rattle.std.proofs.Common.{refl}
use Rattle.worked_rows.proofs.Sha256OnLiterals.{sha256_on_literals}
use Rattle.worked_rows.proofs.authorized.wrong_secret.Goals as goal

pub returns-clause-secret : goal.returns-clause-secret
unfolding sha256_on_literals
returns-clause-secret c = refl

pub returns-clause-words : goal.returns-clause-words
unfolding sha256_on_literals
returns-clause-words c = refl

pub returns-clause-state : goal.returns-clause-state
unfolding sha256_on_literals
returns-clause-state c = refl
