use Rattle.std.proofs.Common.{refl}
use Rattle.worked_answers.proofs.OnLiterals.{text_on_literals}
use Rattle.worked_answers.proofs.files.change_bodies.Goals as goal

pub returns-clause-hide : goal.returns-clause-hide
unfolding text_on_literals
returns-clause-hide c = refl

pub returns-clause-deletion : goal.returns-clause-deletion
unfolding text_on_literals
returns-clause-deletion c = refl

pub returns-clause-hold : goal.returns-clause-hold
unfolding text_on_literals
returns-clause-hold c = refl

pub returns-clause-retention : goal.returns-clause-retention
unfolding text_on_literals
returns-clause-retention c = refl

pub returns-clause-no_retention : goal.returns-clause-no_retention
unfolding text_on_literals
returns-clause-no_retention c = refl
