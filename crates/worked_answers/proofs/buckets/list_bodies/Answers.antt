use Rattle.std.proofs.Common.{refl}
use Rattle.worked_answers.proofs.OnLiterals.{text_on_literals}
use Rattle.worked_answers.proofs.buckets.list_bodies.Goals as goal

pub returns-clause-whole : goal.returns-clause-whole
unfolding text_on_literals
returns-clause-whole c = refl

pub returns-clause-unread : goal.returns-clause-unread
unfolding text_on_literals
returns-clause-unread c = refl
