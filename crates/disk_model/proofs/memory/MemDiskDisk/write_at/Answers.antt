use Rattle.disk_model.proofs.PastSteps.{write_changes, write_after}
use Rattle.disk_model.proofs.memory.MemDiskDisk.write_at.Goals as goal

pub returns-then-fails-clause-torn : goal.returns-then-fails-clause-torn
returns-then-fails-clause-torn c = write_after c.args.self.now.done.items _ c.args.area c.args.at c.args.bytes.now _ _ c.write-made.ensures.done

pub returns-then-fails-clause-writes : goal.returns-then-fails-clause-writes
returns-then-fails-clause-writes c = write_changes c.args.self.now.done.items _ c.args.area c.args.at c.args.bytes.now _ _ c.write-made.ensures.done

pub returns-then-is_err-clause-writes : goal.returns-then-is_err-clause-writes
returns-then-is_err-clause-writes c = write_changes c.args.self.now.done.items _ c.args.area c.args.at c.args.bytes.now _ _ c.write-made.ensures.done

pub returns-clause-writes : goal.returns-clause-writes
returns-clause-writes c = write_changes c.args.self.now.done.items _ c.args.area c.args.at c.args.bytes.now _ _ c.write-made.ensures.done
