use Rattle.served_world.proofs.Whole.{whole_has_reply}
use Rattle.served_world.proofs.laws.whole_requests_are_answered.Goals as goal

pub returns : goal.returns
returns g c = λ M words turns w n k none ran there unanswered. whole_has_reply (record { call = g.Q.Requests.call; upload = g.Q.Requests.upload }) M words turns w n k none ran there unanswered
