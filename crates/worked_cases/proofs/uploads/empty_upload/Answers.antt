use Rattle.std.proofs.Common.{refl}
use Rattle.worked_rows.proofs.Sha1OnLiterals.{sha1_on_literals}
use Rattle.worked_cases.proofs.uploads.empty_upload.Goals as goal

pub returns-clause-read : goal.returns-clause-read
unfolding sha1_on_literals
returns-clause-read c = refl
