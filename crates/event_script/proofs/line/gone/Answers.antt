use Rattle.std.proofs.Common.{List, ℕ, ◌++◌, codes, ap, sym, arith}
use Rattle.outside_traits.specs.declared.link.Event.TheVariants as event
use Rattle.event_script.specs.declared.line.Said.TheVariants as said
use Rattle.event_script.specs.Line.{gone}
use Rattle.event_script.proofs.line.gone.Goals as goal

pub returns : goal.returns
returns c = (gone c.in-Some.number, omega arith, ap (λ (r : List ℕ). codes "gone " ++ r) c.in-Some.ensures, ap (λ n. said.Happens (event.Gone n)) (sym c.conn.ensures))
