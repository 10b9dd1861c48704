use Rattle.durable_store.proofs.Kept.{new_store}
use Rattle.durable_store.proofs.store.Store.new.Goals as goal

pub returns : goal.returns
returns g c = λ i reads. new_store c.in_ok-core.core c.in_ok-contents.contents (g.D.Disk.state c.args.disk.now) c.args.settings c.args.t (c.in_ok-contents.ensures.held i reads) c.in_ok-core.ensures
