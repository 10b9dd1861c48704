use Rattle.given_once.proofs.TokenLaws.{named}
use Rattle.given_once.proofs.tokens_name_what_was_given.Goals as goal

pub returns : goal.returns
returns g c M text token sound is = named M text token sound is
