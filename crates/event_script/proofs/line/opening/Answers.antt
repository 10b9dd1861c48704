use Rattle.std.proofs.Common.{List, ℕ, ◌++◌, codes, ap, sym, arith}
use Rattle.outside_traits.specs.declared.link.Event.TheVariants as event
use Rattle.event_script.specs.declared.line.Said.TheVariants as said
use Rattle.event_script.specs.Line.{opening}
use Rattle.event_script.proofs.line.opening.Goals as goal

pub returns : goal.returns
returns c = (opening c.in-Some.number, omega arith, ap (λ (r : List ℕ). codes "open " ++ r) c.in-Some.ensures, ap (λ n. said.Happens (event.Open n)) (sym c.conn.ensures))
