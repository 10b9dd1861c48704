use Rattle.std.proofs.Common.{[], sym, ap, not}
use Rattle.durable_store.proofs.Begins.{is_there}
use Rattle.durable_store.proofs.Losses.{lost_upload}
use Rattle.durable_store.proofs.store.Store.lost.Goals as goal

pub returns : goal.returns
returns g c = λ P came read is.
    let there = is_there c.flight.result _ (not c.is_none.result) (sym c.is_none.ensures) (ap not c.if-is_none.false) c.flight.ensures in
    lost_upload c.args.self (g.D.Disk.state c.args.disk.now) P came read is c.args.reading c.args.c c.moment_at-t.result c.moment_at-t.ensures c.in_ok-core.field-0.core c.upload_lost-core.result there.0 c.lose.new.self c.get.result
    c.in_ok-core.ensures.state there.1 c.upload_lost-core.ensures c.get.ensures (c.in_ok-lose.ensures.held _ (c.in_ok-core.ensures.held is.holding [] is.kept.owned is.kept.held))
