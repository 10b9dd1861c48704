use Rattle.event_script.proofs.Pieced.{reads_piece, no_piece}
use Rattle.event_script.proofs.line.piece.Goals as goal

pub returns-in-Err-Fault : goal.returns-in-Err-Fault
returns-in-Err-Fault c = no_piece c.args.rest.now c.in-Some.digits.now c.in-Some.number c.in-Some.ensures (rw c.in-Err-Fault.field-0-is at c.in-Err-Fault.ensures)

pub returns : goal.returns
returns c = reads_piece c.args.rest.now c.in-Some.digits.now c.in-Ok.bytes c.in-Some.number c.conn.result c.in-Some.ensures c.conn.ensures c.in-Ok.ensures
