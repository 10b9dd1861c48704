use Rattle.std.proofs.Common.{refl}
use Rattle.worked_answers.proofs.OnLiterals.{text_on_literals}
use Rattle.worked_answers.proofs.files.info_bodies.Goals as goal

pub returns-clause-unread : goal.returns-clause-unread
unfolding text_on_literals
returns-clause-unread c = refl

pub returns-clause-held : goal.returns-clause-held
unfolding text_on_literals
returns-clause-held c = refl
