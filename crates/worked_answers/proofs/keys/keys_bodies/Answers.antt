use Rattle.std.proofs.Common.{refl}
use Rattle.worked_answers.proofs.OnLiterals.{text_on_literals}
use Rattle.worked_answers.proofs.keys.keys_bodies.Goals as goal

pub returns-clause-first : goal.returns-clause-first
unfolding text_on_literals
returns-clause-first c = refl

pub returns-clause-last : goal.returns-clause-last
unfolding text_on_literals
returns-clause-last c = refl
