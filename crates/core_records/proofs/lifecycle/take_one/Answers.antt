use Rattle.std.proofs.Common.{subst, sym}
use Rattle.core_records.specs.GivenUp.{Conserves}
use Rattle.core_records.proofs.Conserve.{taken_conserves}
use Rattle.core_records.proofs.lifecycle.take_one.Goals as goal

pub returns-clause-freed : goal.returns-clause-freed
returns-clause-freed c =
    subst (Conserves c.args.freed.now.items c.args.core.now c.take.new.freed.items) (sym c.in_ok-take.ensures.state)
    (taken_conserves c.args.core.now c.args.id c.args.freed.now.items c.take.new.freed.items c.is_sound.ensures.sound.versions.order c.in_ok-take.ensures.freed)
