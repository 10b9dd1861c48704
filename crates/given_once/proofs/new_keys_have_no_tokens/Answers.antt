use Rattle.given_once.proofs.TokenLaws.{of_other_keys}
use Rattle.given_once.proofs.new_keys_have_no_tokens.Goals as goal

pub returns : goal.returns
returns g c M sound = of_other_keys M sound
