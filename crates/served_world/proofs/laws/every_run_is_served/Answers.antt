use Rattle.served_world.proofs.Whenever.{served}
use Rattle.served_world.proofs.laws.every_run_is_served.Goals as goal

pub returns : goal.returns
returns g c = λ M words turns w ran. served (record { call = g.Q.Requests.call; upload = g.Q.Requests.upload }) M words turns w ran
