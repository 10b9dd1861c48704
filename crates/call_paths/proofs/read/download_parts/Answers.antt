use Rattle.call_paths.proofs.Reading.{parts_by}
use Rattle.call_paths.proofs.read.download_parts.Goals as goal

pub returns : goal.returns
returns c = parts_by c.args.path.now c.in-Some.rest.now c.cut_at.result c.in-Some.ensures c.cut_at.ensures
