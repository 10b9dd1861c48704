use Rattle.std.proofs.Common.{◌+◌, ◌*◌, ◌%◌, ap, ◌∙◌}
use Rattle.std.proofs.Math.Nat.{mul_comm}
use Rattle.workload.specs.Sequence.{next_number}
use Rattle.workload.proofs.Numbers.{wraps_once}
use Rattle.workload.proofs.make.next_number.Goals as goal

pub returns : goal.returns
unfolding next_number
returns c =
    wraps_once (c.args.x * 6364136223846793005) 1442695040888963407 18446744073709551616
    ∙ ap (λ p. (p + 1442695040888963407) % 18446744073709551616) (mul_comm c.args.x 6364136223846793005)
