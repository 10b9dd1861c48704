use Rattle.std.proofs.Common.{refl}
use Rattle.hex.specs.Hex.{encode_with}
use Rattle.b2_base.specs.Digits.{eight_digits, sixteen_digits}
use Rattle.workload.proofs.laws.tokens_are_known.Goals as goal

pub returns-clause-account : goal.returns-clause-account
unfolding eight_digits sixteen_digits encode_with
returns-clause-account c = refl

pub returns-clause-upload : goal.returns-clause-upload
unfolding eight_digits sixteen_digits encode_with
returns-clause-upload c = refl

pub returns-clause-bucket : goal.returns-clause-bucket
unfolding eight_digits encode_with
returns-clause-bucket c = refl
