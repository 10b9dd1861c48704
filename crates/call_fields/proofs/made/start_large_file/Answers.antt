use Rattle.std.proofs.Common.{refl}
use Rattle.call_fields.proofs.made.start_large_file.Goals as goal

pub returns : goal.returns
returns c =
    let fault = rw c.in-Err-Fault.field-0-is at c.in-Err-Fault.ensures in
    rw (c.in_ok-call.ensures, fault) refl
