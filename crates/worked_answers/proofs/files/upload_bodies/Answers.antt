use Rattle.std.proofs.Common.{refl}
use Rattle.worked_answers.proofs.OnLiterals.{text_on_literals}
use Rattle.worked_answers.proofs.files.upload_bodies.Goals as goal

pub returns-clause-verified : goal.returns-clause-verified
unfolding text_on_literals
returns-clause-verified c = refl

pub returns-clause-unverified : goal.returns-clause-unverified
unfolding text_on_literals
returns-clause-unverified c = refl

pub returns-clause-refused : goal.returns-clause-refused
unfolding text_on_literals
returns-clause-refused c = refl
