use Rattle.std.proofs.Common.{List, ℕ, ◌++◌, codes, ap, refl, arith}
use Rattle.event_script.specs.Line.{random}
use Rattle.event_script.proofs.line.random.Goals as goal

pub returns : goal.returns
returns c = (random c.in-Some.word, omega arith, ap (λ (r : List ℕ). codes "word " ++ r) c.in-Some.ensures, refl)
