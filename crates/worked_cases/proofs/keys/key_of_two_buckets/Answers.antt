use Rattle.std.proofs.Common.{refl}
use Rattle.worked_rows.proofs.Sha256OnLiterals.{sha256_on_literals}
use Rattle.worked_cases.proofs.keys.key_of_two_buckets.Goals as goal

pub returns-clause-third_version : goal.returns-clause-third_version
unfolding sha256_on_literals
returns-clause-third_version c = refl

pub returns-clause-fourth_version : goal.returns-clause-fourth_version
unfolding sha256_on_literals
returns-clause-fourth_version c = refl
