use Rattle.disk_model.proofs.PastSteps.{cut_changes, cut_after}
use Rattle.disk_model.proofs.memory.MemDiskDisk.cut.Goals as goal

pub returns-then-fails-clause-torn : goal.returns-then-fails-clause-torn
returns-then-fails-clause-torn c = cut_after c.args.self.now.done.items _ c.args.area c.args.len _ _ c.resize-made.ensures.done

pub returns-then-fails-clause-cuts : goal.returns-then-fails-clause-cuts
returns-then-fails-clause-cuts c = cut_changes c.args.self.now.done.items _ c.args.area c.args.len _ _ c.resize-made.ensures.done

pub returns-then-is_err-clause-cuts : goal.returns-then-is_err-clause-cuts
returns-then-is_err-clause-cuts c = cut_changes c.args.self.now.done.items _ c.args.area c.args.len _ _ c.resize-made.ensures.done

pub returns-clause-cuts : goal.returns-clause-cuts
returns-clause-cuts c = cut_changes c.args.self.now.done.items _ c.args.area c.args.len _ _ c.resize-made.ensures.done
