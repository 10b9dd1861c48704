use Rattle.call_paths.proofs.Paths.{one_path, one_pair}
use Rattle.call_paths.proofs.laws.one_path.Goals as goal

pub returns-clause-route : goal.returns-clause-route
returns-clause-route c = one_path

pub returns-clause-parts : goal.returns-clause-parts
returns-clause-parts c = one_pair
