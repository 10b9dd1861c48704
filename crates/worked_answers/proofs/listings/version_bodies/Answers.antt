use Rattle.std.proofs.Common.{refl}
use Rattle.worked_answers.proofs.OnLiterals.{text_on_literals}
use Rattle.worked_answers.proofs.listings.version_bodies.Goals as goal

pub returns-clause-version : goal.returns-clause-version
unfolding text_on_literals
returns-clause-version c = refl

pub returns-clause-folder : goal.returns-clause-folder
unfolding text_on_literals
returns-clause-folder c = refl

pub returns-clause-last : goal.returns-clause-last
unfolding text_on_literals
returns-clause-last c = refl

pub returns-clause-marker : goal.returns-clause-marker
unfolding text_on_literals
returns-clause-marker c = refl
