use Rattle.std.proofs.Common.{[]}
use Rattle.given_once.proofs.Numbers.{run_again}
use Rattle.given_once.proofs.numbers_are_given_once.Goals as goal

pub returns : goal.returns
returns g c K M words steps = run_again K (record { state = M; words = words; answers = [] }) steps
