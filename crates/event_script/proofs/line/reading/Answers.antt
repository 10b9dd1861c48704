use Rattle.std.proofs.Common.{List, ℕ, ◌++◌, codes, ap, refl, arith}
use Rattle.event_script.specs.Line.{reading}
use Rattle.event_script.proofs.line.reading.Goals as goal

pub returns : goal.returns
returns c = (reading c.in-Some.time, omega arith, ap (λ (r : List ℕ). codes "at " ++ r) c.in-Some.ensures, refl)
