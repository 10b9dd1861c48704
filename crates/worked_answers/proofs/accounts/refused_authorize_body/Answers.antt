use Rattle.std.proofs.Common.{refl}
use Rattle.worked_answers.proofs.OnLiterals.{text_on_literals}
use Rattle.worked_rows.proofs.Sha256OnLiterals.{sha256_on_literals}
use Rattle.worked_answers.proofs.accounts.refused_authorize_body.Goals as goal

pub returns-clause-secret : goal.returns-clause-secret
unfolding text_on_literals sha256_on_literals
returns-clause-secret c = refl

pub returns-clause-header : goal.returns-clause-header
unfolding text_on_literals sha256_on_literals
returns-clause-header c = refl

pub returns-clause-buckets : goal.returns-clause-buckets
unfolding text_on_literals sha256_on_literals
returns-clause-buckets c = refl
