use Rattle.std.proofs.Common.{List, ℕ, ◌++◌, codes, ap, sym, arith}
use Rattle.outside_traits.specs.declared.link.Event.TheVariants as event
use Rattle.event_script.specs.declared.line.Said.TheVariants as said
use Rattle.event_script.specs.Line.{ready}
use Rattle.event_script.proofs.line.ready.Goals as goal

pub returns : goal.returns
returns c = (ready c.in-Some.number, omega arith, ap (λ (r : List ℕ). codes "ready " ++ r) c.in-Some.ensures, ap (λ n. said.Happens (event.Ready n)) (sym c.conn.ensures))
