use Rattle.event_script.proofs.Pieced.{reads_text, no_text}
use Rattle.event_script.proofs.line.written.Goals as goal

pub returns-in-Err-Fault : goal.returns-in-Err-Fault
returns-in-Err-Fault c = no_text c.args.rest.now c.in-Some.text.now c.in-Some.number c.in-Some.ensures (rw c.in-Err-Fault.field-0-is at c.in-Err-Fault.ensures.wrong)

pub returns : goal.returns
returns c = reads_text c.args.rest.now c.in-Some.text.now c.in-Ok.bytes c.in-Some.number c.conn.result c.in-Some.ensures c.conn.ensures c.requires c.in-Ok.ensures.short c.in-Ok.ensures.bytes
