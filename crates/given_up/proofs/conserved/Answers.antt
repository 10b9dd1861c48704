use Rattle.given_up.proofs.Changes.{record_conserves}
use Rattle.given_up.proofs.conserved.Goals as goal

pub returns : goal.returns
returns g c M r freed sound fits is = record_conserves M r freed sound fits is
