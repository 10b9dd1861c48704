use Rattle.served_world.specs.Replies.{Reads}
use Rattle.served_world.specs.World.{start}
use Rattle.served_world.proofs.Once.{one_run}
use Rattle.served_runs.proofs.Worlds.{has_run}
use Rattle.served_runs.proofs.laws.every_list_has_a_run.Goals as goal

pub returns-clause-some : goal.returns-clause-some
returns-clause-some g c = λ M words turns all. has_run (record { call = g.Q.Requests.call; upload = g.Q.Requests.upload }) all turns (start M words)

pub returns-clause-one : goal.returns-clause-one
returns-clause-one g c = λ M words turns all one.
    let R : Reads = record { call = g.Q.Requests.call; upload = g.Q.Requests.upload } in
    let run = has_run R all turns (start M words) in (run.0, run.1, λ v other. one_run R one turns (start M words) v run.0 other run.1)
