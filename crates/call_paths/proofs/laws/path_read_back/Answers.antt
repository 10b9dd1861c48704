use Rattle.call_paths.proofs.Paths.{read_back}
use Rattle.call_paths.proofs.laws.path_read_back.Goals as goal

pub returns : goal.returns
returns c = read_back
