use Rattle.disk_model.proofs.PastSteps.{sync_rests_so}
use Rattle.disk_model.proofs.memory.MemDiskDisk.sync.Goals as goal

pub returns-then-is_err-clause-rests : goal.returns-then-is_err-clause-rests
returns-then-is_err-clause-rests c = sync_rests_so c.args.self.now.done.items _ c.args.area _ _ c.settle.ensures.done

pub returns-clause-rests : goal.returns-clause-rests
returns-clause-rests c = sync_rests_so c.args.self.now.done.items _ c.args.area _ _ c.settle.ensures.done
