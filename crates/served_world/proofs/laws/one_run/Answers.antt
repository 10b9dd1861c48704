use Rattle.served_world.specs.World.{start}
use Rattle.served_world.proofs.Once.{one_run}
use Rattle.served_world.proofs.laws.one_run.Goals as goal

pub returns : goal.returns
returns g c = λ M words turns w v one a b. one_run (record { call = g.Q.Requests.call; upload = g.Q.Requests.upload }) one turns (start M words) w v a b
