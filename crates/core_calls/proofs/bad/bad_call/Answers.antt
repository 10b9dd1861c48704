use Rattle.std.proofs.Common.{Some, None, refl, sym, ap}
use Rattle.std.specs.Option.{option_copied}
use Rattle.b2_types.specs.Fault.{plain}
use Rattle.core_calls.proofs.OnBad.{told_bad}
use Rattle.core_calls.proofs.bad.bad_call.Goals as goal

pub returns-in-Err : goal.returns-in-Err
returns-in-Err c =
    told_bad c.args.core.now c.args.t (option_copied c.args.token) c.args.call.now (Some (plain c.in-Err.kind)) (plain c.in-Err.kind)
    c.plain_refusal.result c.plain_refusal.ensures c.in-Err.ensures refl

pub returns : goal.returns
returns c =
    told_bad c.args.core.now c.args.t (option_copied c.args.token) c.args.call.now None c.in_ok-fault.fault
    c.refusal.result c.refusal.ensures c.in_default.ensures (ap Some (sym c.in_ok-fault.ensures))
