use Rattle.std.proofs.Common.{refl}
use Rattle.worked_rows.proofs.Sha1OnLiterals.{sha1_on_literals}
use Rattle.worked_rows.proofs.uploads.digest_at_end.Goals as goal

pub returns-clause-read : goal.returns-clause-read
unfolding sha1_on_literals
returns-clause-read c = refl

pub returns-clause-no_digits : goal.returns-clause-no_digits
unfolding sha1_on_literals
returns-clause-no_digits c = refl
