use Rattle.new_versions.proofs.Pairs.{none_arranged}
use Rattle.new_versions.proofs.copies.no_info.Goals as goal

pub returns-in-Ok : goal.returns-in-Ok
returns-in-Ok c = none_arranged c.in-Ok.info c.in-Ok.ensures.pairs.1
