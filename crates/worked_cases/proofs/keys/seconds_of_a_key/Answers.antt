use Rattle.std.proofs.Common.{refl}
use Rattle.worked_rows.proofs.Sha256OnLiterals.{sha256_on_literals}
use Rattle.worked_cases.proofs.keys.seconds_of_a_key.Goals as goal

pub returns-clause-id : goal.returns-clause-id
unfolding sha256_on_literals
returns-clause-id c = refl

pub returns-clause-first : goal.returns-clause-first
unfolding sha256_on_literals
returns-clause-first c = refl

pub returns-clause-last : goal.returns-clause-last
unfolding sha256_on_literals
returns-clause-last c = refl

pub returns-clause-end_of : goal.returns-clause-end_of
unfolding sha256_on_literals
returns-clause-end_of c = refl
