use Rattle.std.proofs.Common.{refl}
use Rattle.worked_answers.proofs.OnLiterals.{text_on_literals}
use Rattle.worked_rows.proofs.Sha256OnLiterals.{sha256_on_literals}
use Rattle.worked_answers.proofs.accounts.limited_authorize_body.Goals as goal

pub returns-clause-third_version : goal.returns-clause-third_version
unfolding text_on_literals sha256_on_literals
returns-clause-third_version c = refl

pub returns-clause-fourth_version : goal.returns-clause-fourth_version
unfolding text_on_literals sha256_on_literals
returns-clause-fourth_version c = refl

pub returns-clause-gone : goal.returns-clause-gone
unfolding text_on_literals sha256_on_literals
returns-clause-gone c = refl

pub returns-clause-gone_fourth : goal.returns-clause-gone_fourth
unfolding text_on_literals sha256_on_literals
returns-clause-gone_fourth c = refl
