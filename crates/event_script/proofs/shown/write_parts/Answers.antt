use Rattle.std.proofs.Common.{arith}
use Rattle.event_script.proofs.Shows.{any_err, front_of_list}
use Rattle.event_script.proofs.shown.write_parts.Goals as goal

pub returns-in_err-write_all-clause-err : goal.returns-in_err-write_all-clause-err
returns-in_err-write_all-clause-err g c = any_err c.from_residual.result
    (front_of_list (λ part. part.now) c.args.parts.now c.parts.part-index _ _ _ _ (omega arith) c.parts.invariant.taken c.in_err-write_all.ensures.err)
