use Rattle.call_paths.proofs.Reading.{no_upload_front, no_upload_id}
use Rattle.call_paths.proofs.read.upload_target.Goals as goal

pub returns-in_default : goal.returns-in_default
returns-in_default c = no_upload_front c.args.path.now (rw c.in_default.is at c.behind.ensures)

pub returns-in_default-read : goal.returns-in_default-read
returns-in_default-read c = no_upload_id c.args.path.now c.in-Some.id.now c.in-Some.ensures (rw c.in_default-read.is at c.read.ensures.id)
