use Rattle.std.proofs.Common.{refl}
use Rattle.durable_store.proofs.Copying.{copied_plan}
use Rattle.durable_store.proofs.copies.copied.Goals as goal

pub returns : goal.returns
returns g c = λ h held.
    copied_plan c.copy.new.self (g.D.Disk.state c.copy.new.disk) h 4294967296 c.args.plan.now c.get-pieces.result.now c.in_ok-whole.field-0 c.in-Some.whole refl c.get-pieces.ensures c.in-Some.is (c.in_ok-whole.ensures.held h held)
