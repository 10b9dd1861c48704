use Rattle.app_keys.proofs.Drawn.{four_words}
use Rattle.app_keys.proofs.create.four_words.Goals as goal

pub returns : goal.returns
returns g c = four_words _ _ _ _ _ _ _ _ _ c.next-first.ensures c.next-second.ensures c.next-third.ensures c.next-fourth.ensures
