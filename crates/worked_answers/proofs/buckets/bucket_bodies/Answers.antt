use Rattle.std.proofs.Common.{refl}
use Rattle.worked_answers.proofs.OnLiterals.{text_on_literals}
use Rattle.worked_answers.proofs.buckets.bucket_bodies.Goals as goal

pub returns-clause-new : goal.returns-clause-new
unfolding text_on_literals
returns-clause-new c = refl

pub returns-clause-again : goal.returns-clause-again
unfolding text_on_literals
returns-clause-again c = refl

pub returns-clause-conflict : goal.returns-clause-conflict
unfolding text_on_literals
returns-clause-conflict c = refl
