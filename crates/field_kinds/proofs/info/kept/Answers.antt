use Rattle.field_kinds.proofs.Infos.{not_info}
use Rattle.field_kinds.proofs.info.kept.Goals as goal

pub returns-in-Err-Fault : goal.returns-in-Err-Fault
returns-in-Err-Fault c =
    let fault = rw c.in-Err-Fault.field-0-is at c.in-Err-Fault.ensures.fault in
    not_info c.args.pairs.now c.in-Err-Fault.field-0-0 fault
