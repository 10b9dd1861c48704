use Rattle.std.proofs.Common.{[]}
use Rattle.durable_store.proofs.ReadFor.{reads_for}
use Rattle.durable_store.proofs.store.Store.finish_out.Goals as goal

pub returns : goal.returns
returns g c = λ M came read is. reads_for c.args.self (g.D.Disk.state c.args.disk.now) M came read c.end_reading.new.self c.args.c c.get.result [] is c.get.ensures (c.in_ok-end_reading.ensures.held is.holding is.kept.held)
