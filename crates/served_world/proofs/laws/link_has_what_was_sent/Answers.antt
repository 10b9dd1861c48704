use Rattle.served_world.proofs.Shown.{run_shown}
use Rattle.served_world.proofs.laws.link_has_what_was_sent.Goals as goal

pub returns : goal.returns
returns g c = λ M words turns w ran. run_shown (record { call = g.Q.Requests.call; upload = g.Q.Requests.upload }) M words turns w ran
