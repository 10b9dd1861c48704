use Rattle.call_paths.proofs.Reading.{no_part_front}
use Rattle.call_paths.proofs.read.part_target.Goals as goal

pub returns-in_default : goal.returns-in_default
returns-in_default c = no_part_front c.args.path.now (rw c.in_default.is at c.behind.ensures)
