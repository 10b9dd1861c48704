use Rattle.std.proofs.Common.{refl}
use Rattle.worked_answers.proofs.OnLiterals.{text_on_literals}
use Rattle.worked_answers.proofs.listings.part_bodies.Goals as goal

pub returns-clause-starts : goal.returns-clause-starts
unfolding text_on_literals
returns-clause-starts c = refl

pub returns-clause-parts : goal.returns-clause-parts
unfolding text_on_literals
returns-clause-parts c = refl
