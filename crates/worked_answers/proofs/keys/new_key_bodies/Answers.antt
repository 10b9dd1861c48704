use Rattle.std.proofs.Common.{refl}
use Rattle.worked_answers.proofs.OnLiterals.{text_on_literals}
use Rattle.worked_answers.proofs.keys.new_key_bodies.Goals as goal

pub returns-clause-third_version : goal.returns-clause-third_version
unfolding text_on_literals
returns-clause-third_version c = refl

pub returns-clause-fourth_version : goal.returns-clause-fourth_version
unfolding text_on_literals
returns-clause-fourth_version c = refl

pub returns-clause-of_no_bucket : goal.returns-clause-of_no_bucket
unfolding text_on_literals
returns-clause-of_no_bucket c = refl
