use Rattle.contents_steps.proofs.Replays.{on_more, from_more}
use Rattle.contents_steps.proofs.replays_go_on.Goals as goal

pub returns-clause-on : goal.returns-clause-on
returns-clause-on g c R rs more = on_more R rs more

pub returns-clause-from : goal.returns-clause-from
returns-clause-from g c t ch rs more = from_more t ch rs more
