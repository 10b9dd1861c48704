use Rattle.std.proofs.Common.{List, length}
use Rattle.event_script.specs.Line.{Line}
use Rattle.event_script.specs.Reading.{Stands}
use Rattle.event_script.proofs.reader.parse.Given as goal

abbrev pub invariant-lines : goal.invariant-lines
invariant-lines l = (before : List Line) × Stands l.bytes before l.reader l.rest l.number

abbrev pub decreases-lines : goal.decreases-lines
decreases-lines l = length l.rest
