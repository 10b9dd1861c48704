use Rattle.std.proofs.Common.{◌<◌, ◌≢◌, ℕ, List, length, drop, ap, arith, length-take, length-drop}
use Rattle.b2_base.specs.Digits.{sixteen_digits}
use Rattle.b2_base.proofs.DigitsLemmas.{length-sixteen_digits}
use Rattle.auth_grants.specs.Tokens.{serial_digits}
use Rattle.auth_grants.proofs.text.serial_in.Goals as goal

short : (text : List ℕ) (n : ℕ) → length text < 27 → serial_digits text ≢ sixteen_digits n
short text n small is = omega (arith, ap length is, length-sixteen_digits n, length-take 16 (drop 11 text), length-drop 11 text)

pub returns-then-text-lt27-clause-serial : goal.returns-then-text-lt27-clause-serial
returns-then-text-lt27-clause-serial c = λ n small is. short c.args.text.now n c.if-text-lt27.true is
