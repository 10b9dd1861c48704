use Rattle.contents_agree.proofs.Agree.{same_state}
use Rattle.contents_agree.proofs.agreeing_contents.Goals as goal

pub returns : goal.returns
returns g c f h M all = same_state f h M all
