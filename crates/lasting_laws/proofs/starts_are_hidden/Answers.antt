use Rattle.lasting_laws.proofs.Finished.{hides_starts}
use Rattle.lasting_laws.proofs.starts_are_hidden.Goals as goal

pub returns : goal.returns
returns g c P M t words token asked = hides_starts P M t words token asked
