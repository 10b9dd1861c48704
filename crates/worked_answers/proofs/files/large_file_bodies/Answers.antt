use Rattle.std.proofs.Common.{refl}
use Rattle.worked_answers.proofs.OnLiterals.{text_on_literals}
use Rattle.worked_answers.proofs.files.large_file_bodies.Goals as goal

pub returns-clause-start : goal.returns-clause-start
unfolding text_on_literals
returns-clause-start c = refl

pub returns-clause-part : goal.returns-clause-part
unfolding text_on_literals
returns-clause-part c = refl

pub returns-clause-joined : goal.returns-clause-joined
unfolding text_on_literals
returns-clause-joined c = refl

pub returns-clause-gap : goal.returns-clause-gap
unfolding text_on_literals
returns-clause-gap c = refl

pub returns-clause-cancel : goal.returns-clause-cancel
unfolding text_on_literals
returns-clause-cancel c = refl
