use Rattle.std.proofs.Common.{refl}
use Rattle.worked_answers.proofs.OnLiterals.{text_on_literals}
use Rattle.worked_answers.proofs.keys.key_bodies.Goals as goal

pub returns-clause-limited : goal.returns-clause-limited
unfolding text_on_literals
returns-clause-limited c = refl

pub returns-clause-third_version : goal.returns-clause-third_version
unfolding text_on_literals
returns-clause-third_version c = refl

pub returns-clause-fourth_version : goal.returns-clause-fourth_version
unfolding text_on_literals
returns-clause-fourth_version c = refl
