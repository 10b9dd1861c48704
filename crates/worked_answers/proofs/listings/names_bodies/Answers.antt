use Rattle.std.proofs.Common.{refl}
use Rattle.worked_answers.proofs.OnLiterals.{text_on_literals}
use Rattle.worked_answers.proofs.listings.names_bodies.Goals as goal

pub returns-clause-file : goal.returns-clause-file
unfolding text_on_literals
returns-clause-file c = refl

pub returns-clause-folder : goal.returns-clause-folder
unfolding text_on_literals
returns-clause-folder c = refl
