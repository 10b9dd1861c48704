use Rattle.std.proofs.Common.{Some, None}
use Rattle.conn_talk.specs.Talk.{first_talk}
use Rattle.edge_tests.proofs.Kept.{kept, same_kept, none_there}
use Rattle.edge_tests.proofs.connections.reopen.Goals as goal

pub returns-in-Ok : goal.returns-in-Ok
returns-in-Ok c =
    let n = c.args.c in
    kept n c.gone.new.self c.open.new.self (Some first_talk)
    (kept n c.args.conns.now c.gone.new.self None c.requires c.gone.ensures.others (none_there n c.gone.new.self c.gone.ensures.closed))
    c.in-Ok.ensures.others c.in-Ok.ensures.talk

pub returns-in-Err-Fault : goal.returns-in-Err-Fault
returns-in-Err-Fault c =
    let n = c.args.c in
    same_kept c.gone.new.self c.open.new.self
    (kept n c.args.conns.now c.gone.new.self None c.requires c.gone.ensures.others (none_there n c.gone.new.self c.gone.ensures.closed))
    c.in-Err-Fault.ensures.err
