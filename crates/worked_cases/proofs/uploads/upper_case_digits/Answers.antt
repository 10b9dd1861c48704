use Rattle.std.proofs.Common.{refl}
use Rattle.worked_rows.proofs.Sha1OnLiterals.{sha1_on_literals}
use Rattle.worked_cases.proofs.uploads.upper_case_digits.Goals as goal

pub returns : goal.returns
unfolding sha1_on_literals
returns c = refl
