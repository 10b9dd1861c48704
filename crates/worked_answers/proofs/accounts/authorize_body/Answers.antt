use Rattle.std.proofs.Common.{refl}
use Rattle.worked_answers.proofs.OnLiterals.{text_on_literals}
use Rattle.worked_rows.proofs.Sha256OnLiterals.{sha256_on_literals}
use Rattle.worked_answers.proofs.accounts.authorize_body.Goals as goal

pub returns-clause-text : goal.returns-clause-text
unfolding text_on_literals sha256_on_literals
returns-clause-text c = refl
