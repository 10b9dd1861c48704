use Rattle.served_world.proofs.Whole.{run_fit}
use Rattle.served_world.proofs.laws.uploads_are_on_connections.Goals as goal

pub returns : goal.returns
returns g c = λ M words turns w n none ran. (run_fit (record { call = g.Q.Requests.call; upload = g.Q.Requests.upload }) M words turns w none ran n).0
