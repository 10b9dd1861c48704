use Rattle.field_kinds.proofs.Names.{file_is, file_isnt}
use Rattle.upload_heads.proofs.kinds.file_named.Goals as goal

pub returns-in-Ok : goal.returns-in-Ok
returns-in-Ok c = file_is c.in-Ok.name c.as_bytes.result.now c.args.text.now c.in-Ok.ensures.name.0 c.as_bytes.ensures.value c.in-Ok.ensures.name.1

pub returns-in-Err-Fault : goal.returns-in-Err-Fault
returns-in-Err-Fault c =
    let fault = rw c.in-Err-Fault.field-0-is at c.in-Err-Fault.ensures.fault in
    file_isnt c.as_bytes.result.now c.args.text.now c.in-Err-Fault.field-0-0 c.as_bytes.ensures.value c.as_bytes.ensures.utf8 fault
