use Rattle.std.proofs.Common.{refl}
use Rattle.worked_rows.proofs.Sha1OnLiterals.{sha1_on_literals}
use Rattle.worked_cases.proofs.copies.copies_as_files.Goals as goal

pub returns-clause-digests : goal.returns-clause-digests
unfolding sha1_on_literals
returns-clause-digests c = refl
