use Rattle.served_world.proofs.Whenever.{served}
use Rattle.served_world.proofs.Shown.{run_shown}
use Rattle.served_world.proofs.Silent.{silent_at, link_silent}
use Rattle.served_world.proofs.laws.nothing_sent_unasked.Goals as goal

pub returns-clause-conn : goal.returns-clause-conn
returns-clause-conn g c = λ M words turns w n k ran there none.
    let is = served (record { call = g.Q.Requests.call; upload = g.Q.Requests.upload }) M words turns w ran in silent_at w.answered k (w.conns n) there (is.sent n) none

pub returns-clause-link : goal.returns-clause-link
returns-clause-link g c = λ M words turns w ran none n.
    let is = served (record { call = g.Q.Requests.call; upload = g.Q.Requests.upload }) M words turns w ran in
    let shown = run_shown (record { call = g.Q.Requests.call; upload = g.Q.Requests.upload }) M words turns w ran in link_silent w shown n (is.sent n) is.sent_before none
