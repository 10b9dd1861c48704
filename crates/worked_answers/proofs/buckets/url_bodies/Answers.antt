use Rattle.std.proofs.Common.{refl}
use Rattle.worked_answers.proofs.OnLiterals.{text_on_literals}
use Rattle.worked_answers.proofs.buckets.url_bodies.Goals as goal

pub returns-clause-upload : goal.returns-clause-upload
unfolding text_on_literals
returns-clause-upload c = refl

pub returns-clause-part : goal.returns-clause-part
unfolding text_on_literals
returns-clause-part c = refl

pub returns-clause-download : goal.returns-clause-download
unfolding text_on_literals
returns-clause-download c = refl
