use Rattle.std.proofs.Common.{refl}
use Rattle.worked_rows.proofs.Sha256OnLiterals.{sha256_on_literals}
use Rattle.worked_rows.proofs.authorized.authorize.Goals as goal

pub returns-clause-text : goal.returns-clause-text
unfolding sha256_on_literals
returns-clause-text c = refl

pub returns-clause-end : goal.returns-clause-end
unfolding sha256_on_literals
returns-clause-end c = refl

pub returns-clause-words : goal.returns-clause-words
unfolding sha256_on_literals
returns-clause-words c = refl
